use Rattle.memory_likeness.proofs.Opening.{moved_alike}
use Rattle.memory_likeness.proofs.laws.moved_is_alike.Goals as goal

pub returns : goal.returns
returns c = moved_alike
