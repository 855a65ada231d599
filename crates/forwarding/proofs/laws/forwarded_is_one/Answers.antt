use Rattle.forwarding.proofs.ForwardLaws.{forwarded_is_one}
use Rattle.forwarding.proofs.laws.forwarded_is_one.Goals as goal

pub returns : goal.returns
returns c = forwarded_is_one
