use Rattle.std.proofs.Common.{◌≡◌, map}
use Rattle.std.specs.List.{range_with_len}
use Rattle.outcome_nodes.specs.Nodes.{printed_by}
use Rattle.outcome_list.proofs.outcome.printed.Given as goal

abbrev pub invariant-loop-thread : goal.invariant-loop-thread
invariant-loop-thread l = map (λ v. v.items) l.out.items ≡ map (printed_by l.entries) (range_with_len 0 l.thread)
