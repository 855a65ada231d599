use Rattle.std.proofs.Common.{sym, ap, ◌∙◌}
use Rattle.outcome_nodes.specs.Nodes.{told_by}
use Rattle.equal_nodes.specs.Keys.{mixed, thread_key}
use Rattle.equal_nodes.proofs.Keys.{threads_more}
use Rattle.equal_nodes.proofs.key.key_of.Goals as goal

pub loop-thread-preserved : goal.loop-thread-preserved
loop-thread-preserved c =
    let told = told_by c.args.entries.now c.loop-thread.thread in
    c.mixed-key.ensures
    ∙ ap (λ key. mixed key 257) (c.thread_key.ensures ∙ ap (λ key. thread_key key told) c.loop-thread.invariant)
    ∙ sym (threads_more c.args.entries.now c.loop-thread.thread)
