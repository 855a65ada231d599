use Rattle.refute_session.proofs.Runs.{missed_runs}
use Rattle.refute_session.proofs.laws.missed_runs_are_not_the_sources.Goals as goal

pub returns : goal.returns
returns c = missed_runs
