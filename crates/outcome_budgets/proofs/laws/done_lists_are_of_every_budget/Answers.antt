use Rattle.outcome_budgets.proofs.Greater.{done_unstopped, done_lists, done_runs}
use Rattle.outcome_budgets.proofs.laws.done_lists_are_of_every_budget.Goals as goal

pub returns : goal.returns
returns c = record { unstopped = done_unstopped; outcomes = done_lists; runs = done_runs }
