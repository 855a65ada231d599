use Rattle.std.proofs.Common.{length}
use Rattle.validator.proofs.shape.+same_threads.Given as goal

abbrev pub decreases-same_threads : goal.decreases-same_threads
decreases-same_threads a = length a.one.now
