use Rattle.outcomes_session.proofs.Verdicts.{verdicts_of_runs}
use Rattle.outcomes_session.proofs.laws.verdicts_are_of_runs.Goals as goal

pub returns : goal.returns
returns c = verdicts_of_runs
