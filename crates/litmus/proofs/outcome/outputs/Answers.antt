use Rattle.litmus.proofs.Outputs.{printed_more}
use Rattle.litmus.proofs.outcome.outputs.Goals as goal

pub loop-entry-preserved : goal.loop-entry-preserved
loop-entry-preserved c = printed_more c.args.entries.now c.loop-entry.out.items c.push_printed.new.out.items c.loop-entry.entry-index _ c.loop-entry-test.true c.loop-entry.invariant c.in_ok-push_printed.ensures
