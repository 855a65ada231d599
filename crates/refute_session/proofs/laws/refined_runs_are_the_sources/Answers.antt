use Rattle.refute_session.proofs.Runs.{refined_runs}
use Rattle.refute_session.proofs.laws.refined_runs_are_the_sources.Goals as goal

pub returns : goal.returns
returns c = refined_runs
