use Rattle.acceptance.proofs.Forwarding.{known_loads_are_accepted}
use Rattle.acceptance.proofs.laws.known_loads_are_accepted.Goals as goal

pub returns : goal.returns
returns c = known_loads_are_accepted
