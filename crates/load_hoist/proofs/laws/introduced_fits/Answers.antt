use Rattle.load_hoist.proofs.IntroducedFits.{introduced_fits}
use Rattle.load_hoist.proofs.laws.introduced_fits.Goals as goal

pub returns : goal.returns
returns c = introduced_fits
