use Rattle.outcome_nodes.proofs.Reaching.{nodes_of_runs}
use Rattle.outcome_nodes.proofs.laws.nodes_are_of_runs.Goals as goal

pub returns : goal.returns
returns c = nodes_of_runs
