use Rattle.std.proofs.Common.{length}
use Rattle.validator.proofs.shape.+same_numbers.Given as goal

abbrev pub decreases-same_numbers : goal.decreases-same_numbers
decreases-same_numbers a = length a.one.now
