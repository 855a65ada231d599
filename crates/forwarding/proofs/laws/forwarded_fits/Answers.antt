use Rattle.forwarding.proofs.ForwardFits.{forwarded_fits}
use Rattle.forwarding.proofs.laws.forwarded_fits.Goals as goal

pub returns : goal.returns
returns c = forwarded_fits
