use Rattle.outcome_nodes.specs.Nodes.{printed_by}
use Rattle.outcome_list.proofs.Comparing.{image_more}
use Rattle.outcome_list.proofs.outcome.printed.Goals as goal

pub loop-thread-preserved : goal.loop-thread-preserved
loop-thread-preserved c =
    image_more (λ v. v.items) (printed_by c.args.entries.now) c.loop-thread.out.items c.push.new.self.items c.in_ok-printed_by.field-0 c.loop-thread.thread c.loop-thread.invariant c.in_ok-printed_by.ensures c.in_ok-push.ensures.items
