use Rattle.completeness.proofs.Accepting.{targets_beside_are_accepted}
use Rattle.completeness.proofs.laws.targets_beside_are_accepted.Goals as goal

pub returns : goal.returns
returns c = targets_beside_are_accepted
