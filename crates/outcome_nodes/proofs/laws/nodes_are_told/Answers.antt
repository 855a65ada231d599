use Rattle.outcome_nodes.proofs.Telling.{nodes_told}
use Rattle.outcome_nodes.proofs.laws.nodes_are_told.Goals as goal

pub returns : goal.returns
returns c = nodes_told
