use Rattle.std.proofs.Common.{length}
use Rattle.validator.proofs.shape.+same_locations.Given as goal

abbrev pub decreases-same_locations : goal.decreases-same_locations
decreases-same_locations a = length a.one.now
