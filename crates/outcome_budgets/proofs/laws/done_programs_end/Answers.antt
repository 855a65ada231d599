use Rattle.outcome_budgets.proofs.Greater.{done_end}
use Rattle.outcome_budgets.proofs.laws.done_programs_end.Goals as goal

pub returns : goal.returns
returns c = done_end
