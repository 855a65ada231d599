use Rattle.std.proofs.Common.{length}
use Rattle.validator.proofs.shape.+same_signatures.Given as goal

abbrev pub decreases-same_signatures : goal.decreases-same_signatures
decreases-same_signatures a = length a.one.now
