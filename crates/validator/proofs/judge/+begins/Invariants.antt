use Rattle.std.proofs.Common.{length}
use Rattle.validator.proofs.judge.+begins.Given as goal

abbrev pub decreases-begins : goal.decreases-begins
decreases-begins a = length a.old.now
