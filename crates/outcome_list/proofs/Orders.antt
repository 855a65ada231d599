-- The order of outcomes is total, and tells them apart.
use Rattle.std.proofs.Common.{◌≡◌, ℕ, ℤ, List, [], ◌∷◌, refl, sym, ap, ◌∙◌}
use Rattle.std.proofs.lemmas.Bool.{true≢false}
use Rattle.std.specs.declared.cmp.Ordering.{Ordering}
use Rattle.std.specs.declared.cmp.Ordering.TheVariants.{Less, Equal, Greater}
use Rattle.std.specs.Ordering.{is_eq, ordering_then, nat_cmp, int_cmp}
use Rattle.std.specs.Cmp.{IsTotalOrder, on_total, nat_cmp_total, int_cmp_total, signed_Decides, unsigned_tied, unsigned_Decides}
use Rattle.std.proofs.lemmas.Cmp.{then_total}
use Rattle.std.specs.Cmp.Lexicographic.{slice_cmp, lists_total}
use Rattle.values_undef.specs.declared.value.Val.{Val}
use Rattle.values_undef.specs.declared.value.Val.TheVariants.{Def, Undef}
use Rattle.values_undef.specs.declared.journal.Ending.{Ending}
use Rattle.values_undef.specs.declared.journal.Ending.TheVariants.{Done, Failed, Spent}
use Rattle.outcome_nodes.specs.Outcome.{FinalOutcome}
use Rattle.outcome_list.specs.Order.{place_of_ending, class_of, number_told, value_cmp, outcome_cmp}

values_total : IsTotalOrder value_cmp
values_total = then_total (on_total class_of nat_cmp_total) (on_total number_told int_cmp_total)

pub outcomes_total : IsTotalOrder outcome_cmp
outcomes_total =
    then_total (on_total (λ (o : FinalOutcome). place_of_ending o.ending) nat_cmp_total)
    (then_total (on_total (λ (o : FinalOutcome). o.printed) (lists_total (lists_total int_cmp_total))) (on_total (λ (o : FinalOutcome). o.values) (lists_total values_total)))

then_equal : (a b : Ordering) → ordering_then a b ≡ Equal → (a ≡ Equal) × (b ≡ Equal)
then_equal Less b e = absurd (true≢false (sym (ap is_eq e)))
then_equal Equal b e = (refl, e)
then_equal Greater b e = absurd (true≢false (sym (ap is_eq e)))

lists_equal : {X : Type 0} (R : X → X → Ordering) → ((x y : X) → R x y ≡ Equal → x ≡ y) → (xs ys : List X) → slice_cmp R xs ys ≡ Equal → xs ≡ ys
lists_equal R h [] [] e = refl
lists_equal R h [] (y ∷ ys) e = absurd (true≢false (sym (ap is_eq e)))
lists_equal R h (x ∷ xs) [] e = absurd (true≢false (sym (ap is_eq e)))
lists_equal R h (x ∷ xs) (y ∷ ys) e =
    let q = then_equal (R x y) (slice_cmp R xs ys) e in
    let a = h x y q.0 in
    let b = lists_equal R h xs ys q.1 in λ i. a i ∷ b i

numbers_equal : (x y : ℤ) → int_cmp x y ≡ Equal → x ≡ y
numbers_equal x y e = (signed_Decides x y).0 (ap is_eq e)

naturals_equal : (x y : ℕ) → nat_cmp x y ≡ Equal → x ≡ y
naturals_equal x y e = (unsigned_Decides x y).0 (sym (unsigned_tied x y) ∙ ap is_eq e)

values_equal : (v w : Val) → value_cmp v w ≡ Equal → v ≡ w
values_equal (Def n) (Def m) e = ap (λ (k : ℤ). let v : Val = Def k in v) (numbers_equal n m e)
values_equal (Def n) Undef e = absurd (true≢false (sym (ap is_eq e)))
values_equal Undef (Def m) e = absurd (true≢false (sym (ap is_eq e)))
values_equal Undef Undef e = refl

endings_equal : (a b : Ending) → nat_cmp (place_of_ending a) (place_of_ending b) ≡ Equal → a ≡ b
endings_equal Done Done e = refl
endings_equal Done Failed e = absurd (true≢false (sym (ap is_eq e)))
endings_equal Done Spent e = absurd (true≢false (sym (ap is_eq e)))
endings_equal Failed Done e = absurd (true≢false (sym (ap is_eq e)))
endings_equal Failed Failed e = refl
endings_equal Failed Spent e = absurd (true≢false (sym (ap is_eq e)))
endings_equal Spent Done e = absurd (true≢false (sym (ap is_eq e)))
endings_equal Spent Failed e = absurd (true≢false (sym (ap is_eq e)))
endings_equal Spent Spent e = refl

pub outcomes_equal : (o q : FinalOutcome) → outcome_cmp o q ≡ Equal → o ≡ q
outcomes_equal o q e =
    let first = then_equal (nat_cmp (place_of_ending o.ending) (place_of_ending q.ending)) _ e in
    let rest = then_equal (slice_cmp (slice_cmp int_cmp) o.printed q.printed) (slice_cmp value_cmp o.values q.values) first.1 in
    let a = endings_equal o.ending q.ending first.0 in
    let b = lists_equal (slice_cmp int_cmp) (lists_equal int_cmp numbers_equal) o.printed q.printed rest.0 in
    let c = lists_equal value_cmp values_equal o.values q.values rest.1 in
    λ i. record { ending = a i; printed = b i; values = c i }
