use Rattle.outcome_nodes.proofs.MovedRuns.{runs_moved}
use Rattle.outcome_nodes.proofs.laws.runs_are_moved.Goals as goal

pub returns : goal.returns
returns c = runs_moved
