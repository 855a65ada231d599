use Rattle.outcome_nodes.proofs.Missing.{nothing_missed}
use Rattle.outcome_nodes.proofs.laws.nothing_is_missed.Goals as goal

pub returns : goal.returns
returns c = nothing_missed
