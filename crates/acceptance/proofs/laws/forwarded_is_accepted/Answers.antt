use Rattle.acceptance.proofs.Forwarding.{forwarded_is_accepted}
use Rattle.acceptance.proofs.laws.forwarded_is_accepted.Goals as goal

pub returns : goal.returns
returns c = forwarded_is_accepted
