use Rattle.memory_likeness.proofs.Answers.{accesses_followed}
use Rattle.memory_likeness.proofs.laws.accesses_are_followed.Goals as goal

pub returns : goal.returns
returns c = accesses_followed
