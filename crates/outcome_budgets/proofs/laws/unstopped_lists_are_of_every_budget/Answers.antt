use Rattle.outcome_budgets.proofs.Greater.{unstopped_lists, unstopped_runs}
use Rattle.outcome_budgets.proofs.laws.unstopped_lists_are_of_every_budget.Goals as goal

pub returns : goal.returns
returns c = record { outcomes = unstopped_lists; runs = unstopped_runs }
