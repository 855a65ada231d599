-- What is known of the outcomes of a list.
use Rattle.std.proofs.Common.{◌≡◌, ◌∙◌, ⊎_elim, ℕ, zero, suc, ◌+◌, ◌<◌, ◌≤◌, Bool, true, false, cond, not, Some, None, List, [], ◌∷◌, length, map, get_or, sym, ap, subst, arith}
use Rattle.std.specs.Prelude.{◌||◌, slice_get}
use Rattle.std.specs.List.{AllByRecursion, list_any, position, position_or_len}
use Rattle.std.proofs.lemmas.Bool.{cases_Bool, false≢true}
use Rattle.std.proofs.lemmas.Grind.{common_steps}
use Rattle.std.proofs.lemmas.Option.{get_or_from_slice_get, none-some}
use Rattle.std.proofs.lemmas.List.Quantifiers.{position-Some}
use Rattle.outcome_nodes.specs.Outcome.{FinalOutcome}
use Rattle.outcome_list.specs.List.{found_outcome}
use Rattle.outcome_list.specs.declared.found.Found.{Found}

-- where no place of a list passes, each of its elements fails
fails_below : {X : Type 0} (p : X → Bool) (xs : List X) → length xs ≤ position_or_len p xs → AllByRecursion (λ x. p x ≡ false) xs
fails_below p [] e = tt
fails_below p (x ∷ xs) e =
    ⊎_elim
    (λ (h : p x ≡ true).
    let first : position_or_len p (x ∷ xs) ≡ 0 = ap (λ (t : Bool). cond (not t) (1 + position_or_len p xs) 0) h in
    absurd (omega (arith, first, e)))
    (λ (h : p x ≡ false).
    let later : position_or_len p (x ∷ xs) ≡ 1 + position_or_len p xs = ap (λ (t : Bool). cond (not t) (1 + position_or_len p xs) 0) h in
    let y : (p x ≡ false) × AllByRecursion (λ x. p x ≡ false) xs = (h, fails_below p xs (omega (arith, later, e))) in
    y)
    (cases_Bool (p x))

pub none_passes : {X : Type 0} (p : X → Bool) (xs : List X) → position p xs ≡ None → AllByRecursion (λ x. p x ≡ false) xs
none_passes p xs e = fails_below p xs (grind (arith, common_steps))

module _ (P : Found → Type 0) where
  -- an outcome of the list is that of one of its members
  pub of_outcome : (list : List Found) (o : FinalOutcome) (k : ℕ) → AllByRecursion P list → k < length (map found_outcome list) → get_or (map found_outcome list) k o ≡ o
      → (f : Found) × P f × (found_outcome f ≡ o)
  of_outcome [] o k h l q = absurd (omega (arith, l))
  of_outcome (f ∷ fs) o zero h l q = (f, h.0, q)
  of_outcome (f ∷ fs) o (suc k) h l q = of_outcome fs o k h.1 (omega (arith, l)) q

  -- what stands at a place of the list is one of its members
  pub at_place : (list : List Found) (k : ℕ) (f : Found) → AllByRecursion P list → slice_get list k ≡ Some f → P f
  at_place [] k f h q = absurd (none-some f q)
  at_place (g ∷ gs) zero f h q = let same : g ≡ f = cc in subst P same h.0
  at_place (g ∷ gs) (suc k) f h q = at_place gs k f h.1 q

  -- a member that passes, where some does
  pub of_any : (test : Found → Bool) (list : List Found) → AllByRecursion P list → list_any test list ≡ true → (f : Found) × P f × (test f ≡ true)
  of_any test [] h q = absurd (false≢true q)
  of_any test (f ∷ fs) h q =
      ⊎_elim (λ (r : test f ≡ true). let x : (f : Found) × P f × (test f ≡ true) = (f, h.0, r) in x)
      (λ (r : test f ≡ false). of_any test fs h.1 (sym (ap (λ (b : Bool). b || list_any test fs) r) ∙ q))
      (cases_Bool (test f))

-- what stands at the first place that passes, passes
pub passes_first : (p : Found → Bool) (list : List Found) (k : ℕ) (f : Found) → position p list ≡ Some k → slice_get list k ≡ Some f → p f ≡ true
passes_first p list k f first there = subst (λ g. p g ≡ true) (get_or_from_slice_get list k f f there) (position-Some p list k f first).1

-- each element fails, where none passes
pub none_any : {X : Type 0} (p : X → Bool) (xs : List X) → list_any p xs ≡ false → AllByRecursion (λ x. p x ≡ false) xs
none_any p [] h = tt
none_any p (x ∷ xs) h =
    ⊎_elim (λ (r : p x ≡ true). absurd (false≢true (sym h ∙ ap (λ (b : Bool). b || list_any p xs) r)))
    (λ (r : p x ≡ false). let y : (p x ≡ false) × AllByRecursion (λ x. p x ≡ false) xs = (r, none_any p xs (sym (ap (λ (b : Bool). b || list_any p xs) r) ∙ h)) in y)
    (cases_Bool (p x))
