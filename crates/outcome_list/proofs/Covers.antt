-- When an outcome covers another.
use Rattle.std.proofs.Common.{◌≡◌, ◌⊎◌, ◌↔◌, inl, inr, ⊎_elim, ◌∙◌, ◌&&◌, not, ◌++◌, ℤ, Bool, true, false, List, [], ◌∷◌, length, take, drop, refl, sym, ap, subst}
use Rattle.std.specs.Prelude.{◌||◌}
use Rattle.std.specs.List.{AllByRecursion, AllZip, list_any, starts_with}
use Rattle.std.specs.Ordering.{is_eq, int_eq}
use Rattle.std.specs.Cmp.{Equal-is, signed_Decides, tied_itself}
use Rattle.std.specs.Cmp.Lexicographic.{pointwise}
use Rattle.std.proofs.lemmas.Bool.{and_parts, and_from, or_cases, false≢true, true≢false, false_from_ne_true}
use Rattle.std.proofs.lemmas.List.{take-append-drop}
use Rattle.std.proofs.Math.Seq.{take-append_seam}
use Rattle.std.proofs.lemmas.Slice.Eq.{slice_eq-Decides}
use Rattle.values_undef.specs.declared.journal.Ending.{Ending}
use Rattle.values_undef.specs.declared.journal.Ending.TheVariants.{Done, Failed, Spent}
use Rattle.outcome_nodes.specs.Outcome.{FinalOutcome}
use Rattle.outcome_list.specs.Order.{outcome_cmp}
use Rattle.outcome_list.specs.List.{covers, found_outcome, is_failed_ending, is_spent_ending}
use Rattle.outcome_list.specs.Laws.{IsBeginning, MissedAsSaid}
use Rattle.outcome_list.specs.declared.found.Found.{Found}
use Rattle.outcome_list.proofs.Orders.{outcomes_total, outcomes_equal}

abbrev begins : List ℤ → List ℤ → Bool
begins begun whole = starts_with int_eq whole begun

-- it is another one that has failed: what is printed decides
pub covers_begun : (q o : FinalOutcome) (b : Bool) → is_eq (outcome_cmp q o) ≡ false → is_failed_ending q.ending ≡ true → b ≡ pointwise (λ begun whole. starts_with int_eq whole begun) q.printed o.printed → b ≡ covers q o
covers_begun q o b other failed is = is ∙ sym (λ i. other i || (failed i && pointwise (λ begun whole. starts_with int_eq whole begun) q.printed o.printed))

-- ---- what the test says

begins_told : (begun whole : List ℤ) → begins begun whole ≡ true → IsBeginning begun whole
begins_told begun whole e =
    let same = (slice_eq-Decides signed_Decides begun (take (length begun) whole) (begins begun whole) refl).0 e in
    (drop (length begun) whole, sym (take-append-drop (length begun) whole) ∙ ap (λ (xs : List ℤ). xs ++ drop (length begun) whole) (sym same))

begins_tests : (begun whole : List ℤ) → IsBeginning begun whole → begins begun whole ≡ true
begins_tests begun whole b =
    let same = sym (ap (take (length begun)) b.1 ∙ take-append_seam begun b.0) in (slice_eq-Decides signed_Decides begun (take (length begun) whole) (begins begun whole) refl).1 same

all_told : (xs ys : List (List ℤ)) → pointwise begins xs ys ≡ true → AllZip IsBeginning xs ys
all_told [] [] e = tt
all_told [] (y ∷ ys) e = absurd (false≢true e)
all_told (x ∷ xs) [] e = absurd (false≢true e)
all_told (x ∷ xs) (y ∷ ys) e =
    let both = and_parts (begins x y) (pointwise begins xs ys) e in (begins_told x y both.0, all_told xs ys both.1)

all_test : (xs ys : List (List ℤ)) → AllZip IsBeginning xs ys → pointwise begins xs ys ≡ true
all_test [] [] h = refl
all_test [] (y ∷ ys) h = absurd h
all_test (x ∷ xs) [] h = absurd h
all_test (x ∷ xs) (y ∷ ys) h = and_from (begins x y) (pointwise begins xs ys) (begins_tests x y h.0) (all_test xs ys h.1)

failed_told : (e : Ending) → is_failed_ending e ≡ true → e ≡ Failed
failed_told Done h = absurd (false≢true h)
failed_told Failed h = refl
failed_told Spent h = absurd (false≢true h)

or_left : (x y : Bool) → x ≡ true → (x || y) ≡ true
or_left x y e = ap (λ (b : Bool). b || y) e

or_right : (x y : Bool) → y ≡ true → (x || y) ≡ true
or_right true y e = refl
or_right false y e = e

pub covers_as_said : (q o : FinalOutcome) → (covers q o ≡ true) ↔ ((q ≡ o) ⊎ ((q.ending ≡ Failed) × AllZip IsBeginning q.printed o.printed))
covers_as_said q o = (
  (λ e.
      ⊎_elim (λ (same : is_eq (outcome_cmp q o) ≡ true). inl (outcomes_equal q o ((Equal-is (outcome_cmp q o)).0 same)))
      (λ (begun : (is_failed_ending q.ending && pointwise begins q.printed o.printed) ≡ true).
      let both = and_parts (is_failed_ending q.ending) (pointwise begins q.printed o.printed) begun in inr (failed_told q.ending both.0, all_told q.printed o.printed both.1))
      (or_cases (is_eq (outcome_cmp q o)) (is_failed_ending q.ending && pointwise begins q.printed o.printed) e)),
  (λ h.
      ⊎_elim
      (λ (same : q ≡ o).
      or_left (is_eq (outcome_cmp q o)) (is_failed_ending q.ending && pointwise begins q.printed o.printed)
      (subst (λ (r : FinalOutcome). is_eq (outcome_cmp q r) ≡ true) same (ap is_eq (tied_itself outcomes_total q))))
      (λ (begun : (q.ending ≡ Failed) × AllZip IsBeginning q.printed o.printed).
      or_right (is_eq (outcome_cmp q o)) (is_failed_ending q.ending && pointwise begins q.printed o.printed)
      (and_from (is_failed_ending q.ending) (pointwise begins q.printed o.printed) (ap is_failed_ending begun.0) (all_test q.printed o.printed begun.1)))
      h),
)

-- ---- what is missed

not_false : (b : Bool) → not b ≡ true → b ≡ false
not_false true h = absurd (false≢true h)
not_false false h = refl

spent_told : (e : Ending) → is_spent_ending e ≡ true → e ≡ Spent
spent_told Done h = absurd (false≢true h)
spent_told Failed h = absurd (false≢true h)
spent_told Spent h = refl

none_told : {X : Type 0} (p : X → Bool) (xs : List X) → list_any p xs ≡ false → AllByRecursion (λ x. p x ≡ false) xs
none_told p [] h = tt
none_told p (x ∷ xs) h = (
  false_from_ne_true (p x) (λ e. true≢false (sym (or_left (p x) (list_any p xs) e) ∙ h)),
  none_told p xs (false_from_ne_true (list_any p xs) (λ e. true≢false (sym (or_right (p x) (list_any p xs) e) ∙ h))),
)

none_tests : {X : Type 0} (p : X → Bool) (xs : List X) → AllByRecursion (λ x. p x ≡ false) xs → list_any p xs ≡ false
none_tests p [] h = refl
none_tests p (x ∷ xs) h = ap (λ (b : Bool). b || list_any p xs) h.0 ∙ none_tests p xs h.1

pub missed_as_said : MissedAsSaid
missed_as_said source f =
    let test = λ (g : Found). covers (found_outcome g) (found_outcome f) in
    let spent = is_spent_ending (found_outcome f).ending in (
      (λ e.
          let both = and_parts (not spent) (not (list_any test source)) e in
          (λ is. true≢false (sym (ap is_spent_ending is) ∙ not_false spent both.0), none_told test source (not_false (list_any test source) both.1))),
      (λ h.
          and_from (not spent) (not (list_any test source))
          (ap not (false_from_ne_true spent (λ e. h.0 (spent_told f.outcome.ending e))))
          (ap not (none_tests test source h.1))),
    )
