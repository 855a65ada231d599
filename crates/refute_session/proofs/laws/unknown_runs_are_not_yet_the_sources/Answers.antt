use Rattle.refute_session.proofs.Runs.{unknown_runs}
use Rattle.refute_session.proofs.laws.unknown_runs_are_not_yet_the_sources.Goals as goal

pub returns : goal.returns
returns c = unknown_runs
