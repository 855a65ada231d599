use Rattle.std.proofs.Common.{◌∙◌, ℤ, sym, ap, Vec, Global}
use Rattle.std.specs.List.{starts_with}
use Rattle.std.specs.Ordering.{int_eq, is_eq}
use Rattle.std.specs.Cmp.Lexicographic.{pointwise}
use Rattle.outcome_nodes.specs.Outcome.{FinalOutcome}
use Rattle.outcome_list.specs.List.{is_failed_ending}
use Rattle.outcome_list.proofs.Comparing.{mapped_test}
use Rattle.outcome_list.proofs.Covers.{covers_begun}
use Rattle.outcome_list.proofs.covering.covers.Goals as goal

pub returns-then-is_failed_ending : goal.returns-then-is_failed_ending
returns-then-is_failed_ending c =
    let q = c.args.q.now in
    let o = c.args.o.now in
    let other = sym (c.is_eq.ensures ∙ ap is_eq c.compare.ensures) ∙ c.if-is_eq.false in
    let failed = sym (c.is_failed_ending.ensures ∙ ap (λ (z : FinalOutcome). is_failed_ending z.ending) c.q.view_is) ∙ c.if-is_failed_ending.true in
    let begun = c.are_begun.ensures ∙ (λ i. pointwise (λ v w. starts_with int_eq w.items v.items) (c.as_slice.ensures.value i) (c.as_slice-then-is_failed_ending.ensures.value i)) ∙ mapped_test (λ (v : Vec ℤ Global). v.items) (λ v w. starts_with int_eq w v) c.q.inside.printed.items c.o.inside.printed.items
    ∙ (λ i. pointwise (λ v w. starts_with int_eq w v) (c.q.view_is i).printed (c.o.view_is i).printed) in
    covers_begun q o c.are_begun.result other failed begun
