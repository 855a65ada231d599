use Rattle.outcome_nodes.proofs.Trying.{one_node}
use Rattle.outcome_nodes.proofs.laws.runs_have_one_node.Goals as goal

pub returns : goal.returns
returns c = one_node
