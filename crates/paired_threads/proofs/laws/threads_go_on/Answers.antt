use Rattle.paired_threads.proofs.Stacks.{threads_go_on}
use Rattle.paired_threads.proofs.laws.threads_go_on.Goals as goal

pub returns : goal.returns
returns c = threads_go_on
