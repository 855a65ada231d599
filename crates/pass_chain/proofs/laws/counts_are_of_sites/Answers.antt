use Rattle.pass_chain.proofs.SiteCounts.{counts_are_of_sites}
use Rattle.pass_chain.proofs.laws.counts_are_of_sites.Goals as goal

pub returns : goal.returns
returns c = counts_are_of_sites
