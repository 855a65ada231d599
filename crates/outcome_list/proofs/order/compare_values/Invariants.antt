use Rattle.std.proofs.Common.{◌≡◌, ◌≤◌, length, drop}
use Rattle.std.specs.Cmp.Lexicographic.{slice_cmp}
use Rattle.outcome_list.specs.Order.{value_cmp}
use Rattle.outcome_list.proofs.order.compare_values.Given as goal

abbrev pub invariant-loop-k : goal.invariant-loop-k
invariant-loop-k l = record { first : l.k ≤ length l.a; second : l.k ≤ length l.b; same : slice_cmp value_cmp (drop l.k l.a) (drop l.k l.b) ≡ slice_cmp value_cmp l.a l.b }
