use Rattle.std.proofs.Common.{◌≡◌, ◌≤◌, length, drop}
use Rattle.std.specs.List.{starts_with}
use Rattle.std.specs.Ordering.{int_eq}
use Rattle.std.specs.Cmp.Lexicographic.{pointwise}
use Rattle.outcome_list.proofs.covering.are_begun.Given as goal

abbrev pub invariant-loop-k : goal.invariant-loop-k
invariant-loop-k l = record {
  within : l.k ≤ length l.begun;
  same : pointwise (λ v w. starts_with int_eq w.items v.items) (drop l.k l.begun) (drop l.k l.whole) ≡ pointwise (λ v w. starts_with int_eq w.items v.items) l.begun l.whole;
}
