use Rattle.outcomes_session.proofs.Budgets.{done_stays}
use Rattle.outcomes_session.proofs.laws.done_lists_stay.Goals as goal

pub returns : goal.returns
returns c = done_stays
