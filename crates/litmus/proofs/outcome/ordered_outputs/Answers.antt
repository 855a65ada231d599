use Rattle.litmus.proofs.Outputs.{threads_more}
use Rattle.litmus.proofs.outcome.ordered_outputs.Goals as goal

pub loop-thread-preserved : goal.loop-thread-preserved
loop-thread-preserved c = threads_more c.args.outputs.now c.loop-thread.out.items c.push_of_thread.new.out.items c.loop-thread.thread c.loop-thread.invariant c.in_ok-push_of_thread.ensures
