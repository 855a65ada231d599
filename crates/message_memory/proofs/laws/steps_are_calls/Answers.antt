use Rattle.message_memory.proofs.Ends.{steps_calls}
use Rattle.message_memory.proofs.laws.steps_are_calls.Goals as goal

pub returns : goal.returns
returns c = steps_calls
