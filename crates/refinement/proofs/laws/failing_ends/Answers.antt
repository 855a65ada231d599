use Rattle.refinement.proofs.Ends.{failing_ends}
use Rattle.refinement.proofs.laws.failing_ends.Goals as goal

pub returns : goal.returns
returns c = failing_ends
