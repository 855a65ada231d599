-- The least atom of a row, and of a table.
use Rattle.std.proofs.Common.{◌≡◌, ◌≤◌, ◌<◌, ℕ, zero, suc, ◌+◌, Bool, true, false, cond, ◌&&◌, ◌==◌, List, [], ◌∷◌, length, get_or, drop, Option, Some, None, refl, sym, ap, ◌∙◌, subst, ◌⊎◌, inl, inr, ⊎_elim, arith}
use Rattle.std.specs.Prelude.{◌≢◌, IfSome}
use Rattle.std.proofs.lemmas.Bool.{eqb-true, eq-eqb, and_parts}
use Rattle.il_syntax.specs.declared.statement.Atom.{Atom}
use Rattle.il_paths.specs.Atoms.{AtMost, atoms_equal}
use Rattle.il_paths.specs.Code.{placed}
use Rattle.il_paths.proofs.Callers.{at_most_trans, at_most_both, atoms_equal-true, atoms_equal-refl}
use Rattle.flow_facts.specs.declared.level.Level.{Level}
use Rattle.flow_facts.specs.declared.level.Level.TheVariants.{Nothing, Held, Fresh}
use Rattle.flow_facts.specs.declared.known.Known.{Known}
use Rattle.flow_facts.specs.Levels.{rank_of, IsLevel}
use Rattle.flow_facts.specs.Rows.{higher, is_at, level_of, level_in, level_at, HasAtMost, IsKnownOf, IsLeastIn}
use Rattle.flow_facts.specs.Laws.{BestIsOne, TablesTellTheBest}
use Rattle.flow_facts.proofs.LevelLaws.{levels_are_one, above_nothing}
use Rattle.flow_facts.proofs.RowLaws.{higher_is, nothing-higher, items-at}

-- an entry is at its own place
pub own : (k : Known) → level_of k k.x k.a ≡ k.level
own k = ap (λ (b : Bool). cond b k.level Nothing) ((λ i. eq-eqb k.x k.x refl i && atoms_equal-refl k.a i))

-- a level is at least that of each entry
entry_below : (row : List Known) (i : ℕ) (d k : Known) (x : ℕ) (a : Atom) → i < length row → k ≡ get_or row i d → rank_of (level_of k x a) ≤ rank_of (level_in row x a)
entry_below [] i d k x a h e = absurd (omega arith)
entry_below (j ∷ row) zero d k x a h e =
    let same = ap (λ (l : Known). rank_of (level_of l x a)) e in
    ⊎_elim (λ g. let q = ap rank_of g.0 in omega (arith, g.1)) (λ g. let q = ap rank_of g.0 in omega arith) (higher_is (level_of j x a) (level_in row x a))
entry_below (j ∷ row) (suc i) d k x a h e =
    let low = entry_below row i d k x a (omega arith) e in
    ⊎_elim (λ g. let q = ap rank_of g.0 in omega arith) (λ g. let q = ap rank_of g.0 in omega (arith, g.1)) (higher_is (level_of j x a) (level_in row x a))

-- so an entry above nothing is known
known_entry : (row : List Known) (i : ℕ) (d k : Known) → i < length row → k ≡ get_or row i d → k.level ≢ Nothing → level_in row k.x k.a ≢ Nothing
known_entry row i d k h e up n =
    let low = entry_below row i d k k.x k.a h e in
    let q = ap rank_of (own k) in
    let r = ap rank_of n in
    let p = above_nothing k.level up in
    absurd (omega arith)

-- the atom found so far is above nothing
abbrev pub Found : List Known → ℕ → Option Atom → Type 0
Found row x best = IfSome best (λ b. level_in row x b ≢ Nothing)

-- each atom above nothing is no lower than the one found, or comes later
abbrev pub Lowest : List Known → List Known → ℕ → Option Atom → Type 0
Lowest row rest x best = (a : Atom) → level_in row x a ≢ Nothing → HasAtMost best a ⊎ (level_in rest x a ≢ Nothing)

found_step : (row : List Known) (x i : ℕ) (d k : Known) (best new : Option Atom) → i < length row → k ≡ get_or row i d → IfSome new (λ b. (best ≡ Some b) ⊎ ((b ≡ k.a) × IsKnownOf k x)) → Found row x best → Found row x new
found_step row x i d k best None h e one f = tt
found_step row x i d k best (Some b) h e (inl same) f = subst (Found row x) same f
found_step row x i d k best (Some b) h e (inr n) f = λ g.
    known_entry row i d k h e n.1.1 ((λ j. level_in row (n.1.0 j) (sym n.0 j)) ∙ g)

has_trans : (best : Option Atom) (b a : Atom) → HasAtMost best b → AtMost b a → HasAtMost best a
has_trans None b a f g = f
has_trans (Some c) b a f g = at_most_trans c b a f g

lower_step : (best new : Option Atom) (a : Atom) → IfSome best (λ b. HasAtMost new b) → HasAtMost best a → HasAtMost new a
lower_step None new a f g = absurd g
lower_step (Some b) new a f g = has_trans new b a f g

lowest_step : (row rest : List Known) (x : ℕ) (k : Known) (best new : Option Atom) → IfSome best (λ b. HasAtMost new b) → (IsKnownOf k x → HasAtMost new k.a) → Lowest row (k ∷ rest) x best → Lowest row rest x new
lowest_step row rest x k best new first second low a h = ⊎_elim (λ g. inl (lower_step best new a first g)) (go (is_at x a k) refl) (low a h)
  where
    level : (l m : Level) → (higher l m ≡ Nothing → ⊥) → (l ≢ Nothing) ⊎ (m ≢ Nothing)
    level Nothing m g = inr (λ e. g (nothing-higher m ∙ e))
    level Held m g = inl (λ e. cc)
    level Fresh m g = inl (λ e. cc)

    go : (t : Bool) → is_at x a k ≡ t → (higher (cond t k.level Nothing) (level_in rest x a) ≡ Nothing → ⊥) → HasAtMost new a ⊎ (level_in rest x a ≢ Nothing)
    go false e g = inr (λ n. g (nothing-higher (level_in rest x a) ∙ n))
    go true e g =
        let p = and_parts (k.x == x) (atoms_equal a k.a) e in
        ⊎_elim
        (λ up. inl (subst (HasAtMost new) (sym (atoms_equal-true a k.a p.1)) (second (eqb-true k.x x p.0, up))))
        (λ later. inr later)
        (level k.level (level_in rest x a) g)

-- one entry further
pub best_step : (row : List Known) (x i : ℕ) (d : Known) (best new : Option Atom) → i < length row → IfSome new (λ b. (best ≡ Some b) ⊎ ((b ≡ (get_or row i d).a) × IsKnownOf (get_or row i d) x)) → IfSome best (λ b. HasAtMost new b) → (IsKnownOf (get_or row i d) x → HasAtMost new (get_or row i d).a) → Found row x best → Lowest row (drop i row) x best → Found row x new × Lowest row (drop (i + 1) row) x new
best_step row x i d best new h one first second f low =
    let k = get_or row i d in
    (found_step row x i d k best new h refl one f, lowest_step row (drop (i + 1) row) x k best new first second (subst (λ (r : List Known). Lowest row r x best) (items-at row i d h) low))

-- at the end of the row
level_is : (l : Level) → (l ≢ Nothing → ⊥) → l ≡ Nothing
level_is Nothing f = refl
level_is Held f = absurd (f (λ e. cc))
level_is Fresh f = absurd (f (λ e. cc))

pub best_end : (row : List Known) (x : ℕ) (best : Option Atom) → Found row x best → Lowest row [] x best → IsLeastIn row x best
best_end row x None f low = λ a. level_is (level_in row x a) (λ up. ⊎_elim (λ g. g) (λ g. g refl) (low a up))
best_end row x (Some b) f low = (f, λ a up. ⊎_elim (λ g. g) (λ g. absurd (g refl)) (low a up))

-- a table's levels are those over all paths
pub best_of_table : TablesTellTheBest
best_of_table tree kind rows site x None t h e = λ a. subst (IsLevel (placed 0 tree) site kind x a) (e a) (t site x a h)
best_of_table tree kind rows site x (Some b) t h e = (
  λ l is n. e.0 (levels_are_one kind x b (placed 0 tree) site (level_at rows site x b) l (t site x b h) is ∙ n),
  λ a up. e.1 a (up (level_at rows site x a) (t site x a h)),
)

pub best_is_one : BestIsOne
best_is_one kind x tree site None None h e f = refl
best_is_one kind x tree site None (Some c) h e f = absurd (f.0 Nothing (e c) refl)
best_is_one kind x tree site (Some b) None h e f = absurd (e.0 Nothing (f b) refl)
best_is_one kind x tree site (Some b) (Some c) h e f = ap Some (at_most_both b c (e.1 c f.0) (f.1 b e.0))
