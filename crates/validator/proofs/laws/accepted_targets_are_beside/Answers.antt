use Rattle.validator.proofs.Accepting.{accepted}
use Rattle.validator.proofs.laws.accepted_targets_are_beside.Goals as goal

pub returns : goal.returns
returns c = accepted
