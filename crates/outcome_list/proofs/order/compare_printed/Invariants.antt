use Rattle.std.proofs.Common.{◌≡◌, ◌≤◌, length, drop}
use Rattle.std.specs.Ordering.{int_cmp}
use Rattle.std.specs.Cmp.Lexicographic.{slice_cmp}
use Rattle.outcome_list.proofs.order.compare_printed.Given as goal

abbrev pub invariant-loop-k : goal.invariant-loop-k
invariant-loop-k l = record {
  first : l.k ≤ length l.a;
  second : l.k ≤ length l.b;
  same : slice_cmp (λ v w. slice_cmp int_cmp v.items w.items) (drop l.k l.a) (drop l.k l.b) ≡ slice_cmp (λ v w. slice_cmp int_cmp v.items w.items) l.a l.b;
}
