-- The least atom of a row is one, and the function finds it.
use Rattle.std.proofs.Common.{◌≡◌, ℕ, Bool, true, false, cond, ◌&&◌, ◌==◌, List, [], ◌∷◌, Option, Some, None, refl, sym, ap, ◌∙◌, subst, ◌⊎◌, inl, inr, ⊎_elim}
use Rattle.std.specs.Prelude.{◌≢◌}
use Rattle.std.proofs.lemmas.Bool.{false≢true, eqb-true, and_parts}
use Rattle.il_syntax.specs.declared.statement.Atom.{Atom}
use Rattle.flow_facts.specs.declared.level.Level.{Level}
use Rattle.flow_facts.specs.declared.level.Level.TheVariants.{Nothing, Held, Fresh}
use Rattle.flow_facts.specs.declared.known.Known.{Known}
use Rattle.il_paths.specs.Atoms.{atoms_equal, AtMost, first_of}
use Rattle.flow_facts.specs.Rows.{higher, is_at, level_of, level_in, IsLeastIn}
use Rattle.flow_facts.proofs.Callers.{own, nothing-higher}
use Rattle.il_paths.proofs.Callers.{at_most_trans, at_most_both, atoms_equal-true, at_most_self, lower_is}
use Rattle.forwarding.specs.BestOf.{is_above, best_of}

above_yes : (l : Level) → is_above l ≡ true → l ≢ Nothing
above_yes Nothing e = absurd (false≢true e)
above_yes Held e = λ f. cc
above_yes Fresh e = λ f. cc

above_no : (l : Level) → is_above l ≡ false → l ≡ Nothing
above_no Nothing e = refl
above_no Held e = absurd (false≢true (sym e))
above_no Fresh e = absurd (false≢true (sym e))

-- the higher of two is above nothing where one of them is
first_up : (l m : Level) → l ≢ Nothing → higher l m ≢ Nothing
first_up Nothing m f = absurd (f refl)
first_up Held Nothing f = λ e. cc
first_up Held Held f = λ e. cc
first_up Held Fresh f = λ e. cc
first_up Fresh Nothing f = λ e. cc
first_up Fresh Held f = λ e. cc
first_up Fresh Fresh f = λ e. cc

second_up : (l m : Level) → m ≢ Nothing → higher l m ≢ Nothing
second_up l Nothing f = absurd (f refl)
second_up Nothing Held f = λ e. cc
second_up Held Held f = λ e. cc
second_up Fresh Held f = λ e. cc
second_up Nothing Fresh f = λ e. cc
second_up Held Fresh f = λ e. cc
second_up Fresh Fresh f = λ e. cc

one_up : (l m : Level) → higher l m ≢ Nothing → (l ≢ Nothing) ⊎ (m ≢ Nothing)
one_up Nothing m f = inr (λ e. f (nothing-higher m ∙ e))
one_up Held m f = inl (λ e. cc)
one_up Fresh m f = inl (λ e. cc)

-- an entry that isn't of the location, or is at nothing, says nothing
silent : (k : Known) (x : ℕ) (a : Atom) → ((k.x == x) && is_above k.level) ≡ false → level_of k x a ≡ Nothing
silent k x a e = go (k.x == x) refl (atoms_equal a k.a) e
  where
    go : (p : Bool) → (k.x == x) ≡ p → (q : Bool) → (p && is_above k.level) ≡ false → cond (p && q) k.level Nothing ≡ Nothing
    go false f q g = refl
    go true f true g = above_no k.level g
    go true f false g = refl

-- what an entry knows of a location is of its own atom
spoken : (k : Known) (x : ℕ) (a : Atom) → level_of k x a ≢ Nothing → a ≡ k.a
spoken k x a f = go (is_at x a k) refl f
  where
    go : (t : Bool) → is_at x a k ≡ t → (cond t k.level Nothing ≡ Nothing → ⊥) → a ≡ k.a
    go true e g = atoms_equal-true a k.a (and_parts (k.x == x) (atoms_equal a k.a) e).1
    go false e g = absurd (g refl)

spoken_own : (k : Known) (x : ℕ) → (k.x == x) ≡ true → is_above k.level ≡ true → level_of k x k.a ≢ Nothing
spoken_own k x e f = subst (λ y. level_of k y k.a ≢ Nothing) (eqb-true k.x x e) (λ n. above_yes k.level f (sym (own k) ∙ n))

more_by_one : (k : Known) (more : List Known) (x : ℕ) → ((k.x == x) && is_above k.level) ≡ true → (best : Option Atom) → IsLeastIn more x best → IsLeastIn (k ∷ more) x (Some (first_of k.a best))
more_by_one k more x e None h =
    let p = and_parts (k.x == x) (is_above k.level) e in (
      first_up (level_of k x k.a) (level_in more x k.a) (spoken_own k x p.0 p.1),
      λ a up. ⊎_elim
          (λ here. subst (AtMost k.a) (sym (spoken k x a here)) (at_most_self k.a))
          (λ later. absurd (later (h a)))
          (one_up (level_of k x a) (level_in more x a) up),
    )
more_by_one k more x e (Some b) h =
    let p = and_parts (k.x == x) (is_above k.level) e in
    ⊎_elim
    (λ l. (
      subst (λ c. level_in (k ∷ more) x c ≢ Nothing) (sym l.0) (first_up (level_of k x k.a) (level_in more x k.a) (spoken_own k x p.0 p.1)),
      λ a up. subst (λ c. AtMost c a) (sym l.0) (⊎_elim
          (λ here. subst (AtMost k.a) (sym (spoken k x a here)) (at_most_self k.a))
          (λ later. at_most_trans k.a b a l.1 (h.1 a later))
          (one_up (level_of k x a) (level_in more x a) up)),
    ))
    (λ l. (
      subst (λ c. level_in (k ∷ more) x c ≢ Nothing) (sym l.0) (second_up (level_of k x b) (level_in more x b) h.0),
      λ a up. subst (λ c. AtMost c a) (sym l.0) (⊎_elim
          (λ here. subst (AtMost b) (sym (spoken k x a here)) l.1)
          (λ later. h.1 a later)
          (one_up (level_of k x a) (level_in more x a) up)),
    ))
    (lower_is k.a b)

same_levels : (row other : List Known) (x : ℕ) → ((a : Atom) → level_in row x a ≡ level_in other x a) → (best : Option Atom) → IsLeastIn row x best → IsLeastIn other x best
same_levels row other x f None h = λ a. sym (f a) ∙ h a
same_levels row other x f (Some b) h = (λ n. h.0 (f b ∙ n), λ a up. h.1 a (λ n. up (sym (f a) ∙ n)))

-- the function finds a least atom
pub best_is_least : (row : List Known) (x : ℕ) → IsLeastIn row x (best_of row x)
best_is_least [] x = λ a. refl
best_is_least (k ∷ more) x = go ((k.x == x) && is_above k.level) refl (best_is_least more x)
  where
    go : (t : Bool) → ((k.x == x) && is_above k.level) ≡ t → IsLeastIn more x (best_of more x) → IsLeastIn (k ∷ more) x (cond t (Some (first_of k.a (best_of more x))) (best_of more x))
    go true e h = more_by_one k more x e (best_of more x) h
    go false e h =
        same_levels more (k ∷ more) x (λ a. sym (ap (λ l. higher l (level_in more x a)) (silent k x a e) ∙ nothing-higher (level_in more x a))) (best_of more x) h

-- and there is one
pub least_is_one : (row : List Known) (x : ℕ) (b c : Option Atom) → IsLeastIn row x b → IsLeastIn row x c → b ≡ c
least_is_one row x None None h k = refl
least_is_one row x None (Some c) h k = absurd (k.0 (h c))
least_is_one row x (Some b) None h k = absurd (h.0 (k b))
least_is_one row x (Some b) (Some c) h k = ap Some (at_most_both b c (h.1 c k.0) (k.1 b h.0))
