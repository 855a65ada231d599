use Rattle.outcome_nodes.proofs.Shown.{shown_are_outcomes}
use Rattle.outcome_nodes.proofs.laws.shown_are_outcomes.Goals as goal

pub returns : goal.returns
returns c = shown_are_outcomes
