use Rattle.paired_threads.proofs.Calls.{calls_begin_paired}
use Rattle.paired_threads.proofs.laws.calls_begin_paired.Goals as goal

pub returns : goal.returns
returns c = calls_begin_paired
