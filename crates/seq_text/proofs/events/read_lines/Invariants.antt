use Rattle.std.proofs.Common.{length}
use Rattle.seq_text.proofs.EventSteps.{HasTaken}
use Rattle.seq_text.proofs.events.read_lines.Given as goal

abbrev pub invariant-lines : goal.invariant-lines
invariant-lines l = HasTaken l.p l.text l.events.items l.rest

abbrev pub decreases-lines : goal.decreases-lines
decreases-lines l = length l.rest
