use Rattle.reports.proofs.Chains.{complete_runs_are_few}
use Rattle.reports.proofs.laws.complete_runs_are_few.Goals as goal

pub returns : goal.returns
returns c = complete_runs_are_few
