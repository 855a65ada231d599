use Rattle.std.proofs.Common.{length}
use Rattle.litmus_text.specs.Expectation.{named_locations}
use Rattle.litmus_text.proofs.ExpectationSteps.{HasTaken}
use Rattle.litmus_text.proofs.expectations.read_expectations.Given as goal

abbrev pub invariant-lines : goal.invariant-lines
invariant-lines l = HasTaken (named_locations l.finals l.p) l.text l.expectations.items l.rest

abbrev pub decreases-lines : goal.decreases-lines
decreases-lines l = length l.rest
