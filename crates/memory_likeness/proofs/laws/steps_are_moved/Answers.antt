use Rattle.memory_likeness.proofs.MovedSteps.{steps_moved}
use Rattle.memory_likeness.proofs.laws.steps_are_moved.Goals as goal

pub returns : goal.returns
returns c = steps_moved
