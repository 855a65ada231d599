use Rattle.std.proofs.Common.{length}
use Rattle.validator.proofs.programs.+first_refused.Given as goal

abbrev pub decreases-first_refused : goal.decreases-first_refused
decreases-first_refused g a = length a.sources.now
