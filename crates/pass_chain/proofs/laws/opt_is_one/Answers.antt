use Rattle.pass_chain.proofs.ChainLaws.{opt_is_one}
use Rattle.pass_chain.proofs.laws.opt_is_one.Goals as goal

pub returns : goal.returns
returns c = opt_is_one
