use Rattle.outcome_budgets.proofs.Greater.{done_stay}
use Rattle.outcome_budgets.proofs.laws.done_outcomes_stay.Goals as goal

pub returns : goal.returns
returns c = done_stay
