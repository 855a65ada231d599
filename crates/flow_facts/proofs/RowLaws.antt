-- Rows as functions from pairs to levels: entries put to the end, and each entry's level changed.
use Rattle.std.proofs.Common.{◌≡◌, ◌≤◌, ◌<◌, ℕ, suc, ◌+◌, Bool, true, false, cond, leb, ◌&&◌, ◌==◌, List, [], ◌∷◌, ◌++◌, length, get_or, drop, drop-cons, add-one, refl, sym, ap, subst, ◌∙◌, ◌⊎◌, inl, inr, ⊎_elim, arith}
use Rattle.std.proofs.lemmas.Bool.{eqb-true, leb-true, leb-false, and_parts}
use Rattle.il_syntax.specs.declared.statement.Atom.{Atom}
use Rattle.path_meets.specs.Walks.{meet}
use Rattle.path_meets.proofs.Callers.{least_rank, least_above}
use Rattle.flow_facts.specs.declared.level.Level.{Level}
use Rattle.flow_facts.specs.declared.level.Level.TheVariants.{Nothing, Held, Fresh}
use Rattle.flow_facts.specs.declared.known.Known.{Known}
use Rattle.flow_facts.specs.Levels.{rank_of}
use Rattle.il_paths.specs.Atoms.{atoms_equal}
use Rattle.il_paths.proofs.Callers.{atoms_equal-true}
use Rattle.flow_facts.specs.Rows.{higher, is_at, level_of, level_in, with_level}
use Rattle.flow_facts.proofs.LevelLaws.{rank_injective}

pub higher-nothing : (l : Level) → higher l Nothing ≡ l
higher-nothing Nothing = refl
higher-nothing Held = refl
higher-nothing Fresh = refl

pub nothing-higher : (l : Level) → higher Nothing l ≡ l
nothing-higher Nothing = refl
nothing-higher Held = refl
nothing-higher Fresh = refl

pub higher_assoc : (k l m : Level) → higher (higher k l) m ≡ higher k (higher l m)
higher_assoc Nothing l m = ap (λ n. higher n m) (nothing-higher l) ∙ sym (nothing-higher (higher l m))
higher_assoc Held Nothing m = ap (higher Held) (sym (nothing-higher m))
higher_assoc Held Held Nothing = refl
higher_assoc Held Held Held = refl
higher_assoc Held Held Fresh = refl
higher_assoc Held Fresh Nothing = refl
higher_assoc Held Fresh Held = refl
higher_assoc Held Fresh Fresh = refl
higher_assoc Fresh Nothing m = ap (higher Fresh) (sym (nothing-higher m))
higher_assoc Fresh Held Nothing = refl
higher_assoc Fresh Held Held = refl
higher_assoc Fresh Held Fresh = refl
higher_assoc Fresh Fresh Nothing = refl
higher_assoc Fresh Fresh Held = refl
higher_assoc Fresh Fresh Fresh = refl

pub higher_is : (l m : Level) → ((higher l m ≡ m) × (rank_of l ≤ rank_of m)) ⊎ ((higher l m ≡ l) × (rank_of m < rank_of l))
higher_is l m = go (leb (rank_of l) (rank_of m)) refl
  where
    go : (t : Bool) → leb (rank_of l) (rank_of m) ≡ t → ((cond t m l ≡ m) × (rank_of l ≤ rank_of m)) ⊎ ((cond t m l ≡ l) × (rank_of m < rank_of l))
    go true e = inl (refl, leb-true (rank_of l) (rank_of m) e)
    go false e = inr (refl, leb-false (rank_of l) (rank_of m) e)

higher_up : (l m : Level) → rank_of l ≤ rank_of m → higher l m ≡ m
higher_up l m h = ⊎_elim (λ g. g.0) (λ g. absurd (omega (arith, g.1))) (higher_is l m)

higher_down : (l m : Level) → rank_of m ≤ rank_of l → higher l m ≡ l
higher_down l m h = ⊎_elim (λ g. g.0 ∙ rank_injective m l (omega (arith, g.1))) (λ g. g.0) (higher_is l m)

-- what keeps the order of levels goes over the higher of two
pub higher_kept : (f : Level → Level) → ((a b : Level) → rank_of a ≤ rank_of b → rank_of (f a) ≤ rank_of (f b)) → (l m : Level) → f (higher l m) ≡ higher (f l) (f m)
higher_kept f monotone l m =
    ⊎_elim
    (λ g. ap f g.0 ∙ sym (higher_up (f l) (f m) (monotone l m g.1)))
    (λ g. ap f g.0 ∙ sym (higher_down (f l) (f m) (monotone m l (omega (arith, g.1)))))
    (higher_is l m)

pub meet_kept : (c a b : Level) → rank_of a ≤ rank_of b → rank_of (meet Level rank_of a c) ≤ rank_of (meet Level rank_of b c)
meet_kept c a b h =
    let low = least_rank Level rank_of a c in
    least_above Level rank_of b c (meet Level rank_of a c) (omega (arith, low)) low.1

pub level_in-append : (xs ys : List Known) (x : ℕ) (a : Atom) → level_in (xs ++ ys) x a ≡ higher (level_in xs x a) (level_in ys x a)
level_in-append [] ys x a = sym (nothing-higher (level_in ys x a))
level_in-append (k ∷ xs) ys x a = ap (higher (level_of k x a)) (level_in-append xs ys x a) ∙ sym (higher_assoc (level_of k x a) (level_in xs x a) (level_in ys x a))

pub level_in-push : (xs ys : List Known) (k : Known) → ys ≡ xs ++ k ∷ [] → (x : ℕ) (a : Atom) → level_in ys x a ≡ higher (level_in xs x a) (level_of k x a)
level_in-push xs ys k e x a = ap (λ (zs : List Known). level_in zs x a) e ∙ level_in-append xs (k ∷ []) x a ∙ ap (higher (level_in xs x a)) (higher-nothing (level_of k x a))

-- an entry that says no more of its pair than the row
pub level_in_said : (xs : List Known) (k : Known) → higher (level_in xs k.x k.a) k.level ≡ level_in xs k.x k.a → (x : ℕ) (a : Atom) → level_in xs x a ≡ higher (level_in xs x a) (level_of k x a)
level_in_said xs k e x a = go (is_at x a k) refl
  where
    go : (t : Bool) → is_at x a k ≡ t → level_in xs x a ≡ higher (level_in xs x a) (cond t k.level Nothing)
    go true is =
        let p = and_parts (k.x == x) (atoms_equal a k.a) is in
        sym (subst (λ (b : Atom). higher (level_in xs x b) k.level ≡ level_in xs x b) (sym (atoms_equal-true a k.a p.1))
        (subst (λ (y : ℕ). higher (level_in xs y k.a) k.level ≡ level_in xs y k.a) (eqb-true k.x x p.0) e))
    go false is = sym (higher-nothing (level_in xs x a))

-- an entry at nothing says nothing
pub level_of-nothing : (k : Known) → k.level ≡ Nothing → (x : ℕ) (a : Atom) → level_of k x a ≡ Nothing
level_of-nothing k e x a = go (is_at x a k)
  where
    go : (t : Bool) → cond t k.level Nothing ≡ Nothing
    go true = e
    go false = refl

-- One entry further, where each level is changed by what keeps order.
module _ (f : ℕ → Atom → Level → Level) (monotone : (x : ℕ) (a : Atom) (l m : Level) → rank_of l ≤ rank_of m → rank_of (f x a l) ≤ rank_of (f x a m)) where
  pub row_step : (known : Level) (k : Known) (rest : List Known) (x : ℕ) (a : Atom) → higher (higher known (level_of (with_level k (f k.x k.a k.level)) x a)) (f x a (level_in rest x a)) ≡ higher known (f x a (level_in (k ∷ rest) x a))
  row_step known k rest x a = go (is_at x a k) refl
    where
      go : (t : Bool) → is_at x a k ≡ t → higher (higher known (cond t (f k.x k.a k.level) Nothing)) (f x a (level_in rest x a)) ≡ higher known (f x a (higher (cond t k.level Nothing) (level_in rest x a)))
      go true e =
          let p = and_parts (k.x == x) (atoms_equal a k.a) e in
          ap (λ l. higher (higher known l) (f x a (level_in rest x a))) (λ i. f (eqb-true k.x x p.0 i) (sym (atoms_equal-true a k.a p.1) i) k.level)
          ∙ higher_assoc known (f x a k.level) (f x a (level_in rest x a))
          ∙ ap (higher known) (sym (higher_kept (f x a) (monotone x a) k.level (level_in rest x a)))
      go false e =
          (λ i. higher (higher-nothing known i) (f x a (level_in rest x a)))
          ∙ ap (λ l. higher known (f x a l)) (sym (nothing-higher (level_in rest x a)))

-- the items from one on
pub items-drop : {A : Type 0} (xs : List A) (i : ℕ) (x : A) → i < length xs → x ≡ get_or xs i x → drop i xs ≡ x ∷ drop (i + 1) xs
items-drop {A} xs i x h e = rw (add-one, drop-cons xs i x) (ap (λ (y : A). y ∷ drop (suc i) xs) (sym e))

pub items-at : {A : Type 0} (xs : List A) (i : ℕ) (d : A) → i < length xs → drop i xs ≡ get_or xs i d ∷ drop (i + 1) xs
items-at {A} xs i d h = rw (add-one, drop-cons xs i d) refl

-- a loop over a row that puts each entry's changed level to the end of another
pub loop_step : (f : ℕ → Atom → Level → Level) → ((x : ℕ) (a : Atom) (l m : Level) → rank_of l ≤ rank_of m → rank_of (f x a l) ≤ rank_of (f x a m)) → (row new pushed : List Known) (entry k : Known) (i : ℕ) → drop i row ≡ k ∷ drop (i + 1) row → entry ≡ with_level k (f k.x k.a k.level) → ((x : ℕ) (a : Atom) → level_in pushed x a ≡ higher (level_in new x a) (level_of entry x a)) → ((x : ℕ) (a : Atom) → higher (level_in new x a) (f x a (level_in (drop i row) x a)) ≡ f x a (level_in row x a)) → (x : ℕ) (a : Atom) → higher (level_in pushed x a) (f x a (level_in (drop (i + 1) row) x a)) ≡ f x a (level_in row x a)
loop_step f monotone row new pushed entry k i rest is put inv x a =
    (λ j. higher ((put x a ∙ ap (λ (e : Known). higher (level_in new x a) (level_of e x a)) is) j) (f x a (level_in (drop (i + 1) row) x a)))
    ∙ row_step f monotone (level_in new x a) k (drop (i + 1) row) x a
    ∙ ap (λ (ks : List Known). higher (level_in new x a) (f x a (level_in ks x a))) (sym rest)
    ∙ inv x a
