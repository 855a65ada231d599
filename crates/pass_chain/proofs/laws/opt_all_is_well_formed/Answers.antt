use Rattle.pass_chain.proofs.WellFormedChains.{opt_all_is_well_formed}
use Rattle.pass_chain.proofs.laws.opt_all_is_well_formed.Goals as goal

pub returns : goal.returns
returns c = opt_all_is_well_formed
