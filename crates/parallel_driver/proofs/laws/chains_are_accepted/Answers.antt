use Rattle.parallel_driver.proofs.NeighbourLaws.{chains_are_accepted}
use Rattle.parallel_driver.proofs.laws.chains_are_accepted.Goals as goal

pub returns : goal.returns
returns c = chains_are_accepted
