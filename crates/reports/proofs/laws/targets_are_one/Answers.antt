use Rattle.reports.proofs.OneTarget.{targets_are_one}
use Rattle.reports.proofs.laws.targets_are_one.Goals as goal

pub returns : goal.returns
returns c = targets_are_one
