use Rattle.std.proofs.Common.{length}
use Rattle.text_parts.specs.Division.{IsPast}
use Rattle.text_parts.proofs.division.past_others.Given as goal

abbrev pub invariant-lines : goal.invariant-lines
invariant-lines l = IsPast l.word l.text l.rest

abbrev pub decreases-lines : goal.decreases-lines
decreases-lines l = length l.rest
