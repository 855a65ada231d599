use Rattle.memory_likeness.proofs.Opening.{openings_alike}
use Rattle.memory_likeness.proofs.laws.openings_are_alike.Goals as goal

pub returns : goal.returns
returns c = openings_alike
