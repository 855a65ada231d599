use Rattle.walk_limits.proofs.Fitting.{runs_few, runs_fit}
use Rattle.walk_limits.proofs.laws.runs_fit.Goals as goal

pub returns : goal.returns
returns c = record { few = runs_few; fit = runs_fit }
