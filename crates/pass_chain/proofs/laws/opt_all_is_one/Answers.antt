use Rattle.pass_chain.proofs.ChainLaws.{opt_all_is_one}
use Rattle.pass_chain.proofs.laws.opt_all_is_one.Goals as goal

pub returns : goal.returns
returns c = opt_all_is_one
