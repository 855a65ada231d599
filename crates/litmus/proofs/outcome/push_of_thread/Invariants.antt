use Rattle.std.proofs.Common.{◌≡◌, ◌++◌, take}
use Rattle.litmus.specs.Outcome.{of_thread}
use Rattle.litmus.proofs.outcome.push_of_thread.Given as goal

abbrev pub invariant-loop-output : goal.invariant-loop-output
invariant-loop-output l = l.out.items ≡ l.initial.out.items ++ of_thread l.thread (take l.output-index l.outputs)
