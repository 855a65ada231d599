use Rattle.std.proofs.Common.{◌≡◌, take}
use Rattle.litmus.specs.Outcome.{printed_in}
use Rattle.litmus.proofs.outcome.outputs.Given as goal

abbrev pub invariant-loop-entry : goal.invariant-loop-entry
invariant-loop-entry l = l.out.items ≡ printed_in (take l.entry-index l.entries)
