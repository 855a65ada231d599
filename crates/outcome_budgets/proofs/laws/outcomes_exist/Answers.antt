use Rattle.outcome_budgets.proofs.Greater.{outcomes_exist}
use Rattle.outcome_budgets.proofs.laws.outcomes_exist.Goals as goal

pub returns : goal.returns
returns c = outcomes_exist
