use Rattle.outcome_nodes.proofs.Reaching.{failures_of_runs}
use Rattle.outcome_nodes.proofs.Ending.{ends_of_runs}
use Rattle.outcome_nodes.proofs.laws.outcomes_are_of_runs.Goals as goal

pub returns : goal.returns
returns c = record { failures = failures_of_runs; ends = ends_of_runs }
