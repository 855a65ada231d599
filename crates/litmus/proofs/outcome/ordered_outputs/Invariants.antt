use Rattle.std.proofs.Common.{◌≡◌, ◌++◌, take}
use Rattle.std.specs.List.{flat_map, range_with_len}
use Rattle.litmus.specs.Outcome.{of_thread}
use Rattle.litmus.proofs.outcome.ordered_outputs.Given as goal

abbrev pub invariant-loop-thread : goal.invariant-loop-thread
invariant-loop-thread l = l.out.items ≡ flat_map (λ t. of_thread t l.outputs) (range_with_len 0 l.thread)
