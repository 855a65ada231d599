use Rattle.outcome_budgets.proofs.Completing.{runs_completed}
use Rattle.outcome_budgets.proofs.laws.runs_can_be_completed.Goals as goal

pub returns : goal.returns
returns c = runs_completed
