-- The backward walk says which locations are overwritten first on all paths.
use Rattle.std.proofs.Common.{◌≡◌, ◌≤◌, ℕ, Bool, true, false, cond, List, [], ◌∷◌, ◌++◌, get_or, refl, sym, ap, ◌∙◌, subst, ◌⊎◌, inl, inr, ⊎_elim, arith}
use Rattle.std.proofs.lemmas.Bool.{false≢true}
use Rattle.il_syntax.specs.Statements.{Head}
use Rattle.il_paths.specs.Code.{Visit, placed}
use Rattle.il_paths.specs.Tree.{Tree}
use Rattle.il_paths.specs.Meets.{fold_backward, IsMeetAfter}
use Rattle.path_meets.specs.Chain.{must_rank, IsMonotone}
use Rattle.path_meets.proofs.Callers.{all_paths_after}
use Rattle.location_sets.specs.Sets.{has}
use Rattle.backward_sets.specs.Meets.{KeepsOrder, AreMeetsAfter}
use Rattle.dead_store.specs.Overwritten.{stores_to, needs, passes_by, AllPassBy, IsOverwrittenFirst, AreOverwritten}
use Rattle.dead_store.specs.Backward.{overwritten_change, overwritten_step}

-- what a statement does: nothing, a yes, or a no
abbrev Does : ℕ → Head → Type 0
Does x head = passes_by x head ⊎ ((stores_to x head ≡ true) ⊎ ((later : Bool) → overwritten_change x head later ≡ false))

does : (x : ℕ) (head : Head) → Does x head
does x head = go (stores_to x head) (needs x head) refl refl
  where
    go : (s n : Bool) → stores_to x head ≡ s → needs x head ≡ n → Does x head
    go true n e f = inr (inl e)
    go false false e f = inl (e, f)
    go false true e f = inr (inr (λ later. (λ i. cond (e i) true (cond (f i) false later))))

-- what passes x by changes nothing
passing : (x : ℕ) (head : Head) (later : Bool) → passes_by x head → overwritten_change x head later ≡ later
passing x head later p = λ i. cond (p.0 i) true (cond (p.1 i) false later)

-- a store to x overwrites it, whatever comes later
storing : (x : ℕ) (head : Head) (later : Bool) → stores_to x head ≡ true → overwritten_change x head later ≡ true
storing x head later e = ap (λ b. cond b true (cond (needs x head) false later)) e

pub step_monotone : (x : ℕ) → IsMonotone must_rank (overwritten_step x)
step_monotone x v a b h =
    ⊎_elim (λ p. let e = ap must_rank (passing x v.head a p) in let f = ap must_rank (passing x v.head b p) in omega arith)
    (⊎_elim (λ s. let e = ap must_rank (storing x v.head a s) in let f = ap must_rank (storing x v.head b s) in omega arith) (λ n. let e = ap must_rank (n a) in let f = ap must_rank (n b) in omega arith))
    (does x v.head)

pub must_bounded : (a : Bool) → must_rank a ≤ 1
must_bounded true = omega arith
must_bounded false = omega arith

put_before : (x : ℕ) (v : Visit) (q : List Visit) → passes_by x v.head → IsOverwrittenFirst x q → IsOverwrittenFirst x (v ∷ q)
put_before x v q f o = record { before = v ∷ o.before; store = o.store; after = o.after; is = ap (λ (p : List Visit). v ∷ p) o.is; stores = o.stores; untouched = (f, o.untouched) }

pub fold_overwritten : (x : ℕ) (q : List Visit) → fold_backward (overwritten_step x) q false ≡ true → IsOverwrittenFirst x q
fold_overwritten x [] e = absurd (false≢true e)
fold_overwritten x (v ∷ q) e = go (does x v.head) (fold_overwritten x q)
  where
    go : Does x v.head → (fold_backward (overwritten_step x) q false ≡ true → IsOverwrittenFirst x q) → IsOverwrittenFirst x (v ∷ q)
    go (inl p) more = put_before x v q p (more (sym (passing x v.head (fold_backward (overwritten_step x) q false) p) ∙ e))
    go (inr (inl s)) more = record { before = []; store = v; after = q; is = refl; stores = s; untouched = tt }
    go (inr (inr n)) more = absurd (false≢true (sym (n (fold_backward (overwritten_step x) q false)) ∙ e))

pub fold_stored : (x : ℕ) (before : List Visit) (store : Visit) (rest : List Visit) → stores_to x store.head ≡ true → AllPassBy x before → fold_backward (overwritten_step x) (before ++ store ∷ rest) false ≡ true
fold_stored x [] store rest e u = storing x store.head (fold_backward (overwritten_step x) rest false) e
fold_stored x (v ∷ before) store rest e u = passing x v.head (fold_backward (overwritten_step x) (before ++ store ∷ rest) false) u.0 ∙ fold_stored x before store rest e u.1

overwritten_fold : (x : ℕ) (q : List Visit) → IsOverwrittenFirst x q → fold_backward (overwritten_step x) q false ≡ true
overwritten_fold x q o = ap (λ (p : List Visit). fold_backward (overwritten_step x) p false) o.is ∙ fold_stored x o.before o.store o.after o.stores o.untouched

pub keeps_order : KeepsOrder must_rank overwritten_change
keeps_order = record { bounded = must_bounded; monotone = step_monotone }

pub sets_overwritten : (t : Tree) (end : List ℕ) (sets : List (List ℕ)) → end ≡ [] → AreMeetsAfter must_rank overwritten_change t end sets → AreOverwritten t sets
sets_overwritten t end sets empty meets site x h =
    let none : has x end ≡ false = ap (has x) empty in
    let m = subst (λ (b : Bool). IsMeetAfter must_rank (overwritten_step x) b (placed 0 t) site (has x (get_or sets site []))) none (meets site x h) in
    let both = all_paths_after (overwritten_step x) false (placed 0 t) site (has x (get_or sets site [])) m in
    (λ yes_. λ q a. fold_overwritten x q (both.0 yes_ q a), λ f. both.1 (λ q a. overwritten_fold x q (f q a)))
