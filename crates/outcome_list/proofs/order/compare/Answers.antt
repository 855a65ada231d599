use Rattle.std.proofs.Common.{◌∙◌, ℤ, Vec, Global}
use Rattle.std.specs.Ordering.{ordering_then, int_cmp, nat_cmp}
use Rattle.std.specs.Cmp.Lexicographic.{slice_cmp}
use Rattle.outcome_list.specs.Order.{outcome_cmp, value_cmp}
use Rattle.outcome_list.proofs.Comparing.{mapped_cmp}
use Rattle.outcome_list.proofs.order.compare.Goals as goal

pub returns : goal.returns
returns c =
    let place = c.cmp.ensures ∙ (λ i. nat_cmp (c.place_of_ending.ensures i) (c.place_of_ending-2.ensures i)) in
    let printed = c.compare_printed-printed.ensures ∙ (λ i. slice_cmp (λ v w. slice_cmp int_cmp v.items w.items) (c.as_slice.ensures.value i) (c.as_slice-2.ensures.value i)) ∙ mapped_cmp (λ (v : Vec ℤ Global). v.items) (slice_cmp int_cmp) c.a.inside.printed.items c.b.inside.printed.items in
    let values = c.compare_values-values.ensures ∙ (λ i. slice_cmp value_cmp (c.as_slice-3.ensures.value i) (c.as_slice-4.ensures.value i)) in
    let rest = c.then.ensures ∙ (λ i. ordering_then (printed i) (values i)) in
    let all = c.then-2.ensures ∙ (λ i. ordering_then (place i) (rest i)) in
    all ∙ (λ i. outcome_cmp (c.a.view_is i) (c.b.view_is i))
