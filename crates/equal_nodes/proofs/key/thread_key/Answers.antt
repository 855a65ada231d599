use Rattle.std.proofs.Common.{cond, eqb, get_or, [], ◌∷◌, sym, ap, ◌∙◌}
use Rattle.memory_likeness.specs.Likeness.{without_stamps}
use Rattle.outcome_moves.proofs.Callers.{no_entry}
use Rattle.equal_nodes.specs.Keys.{thread_key}
use Rattle.equal_nodes.proofs.Keys.{thread_more}
use Rattle.equal_nodes.proofs.key.thread_key.Goals as goal

pub loop-k-preserved : goal.loop-k-preserved
loop-k-preserved c =
    let e = get_or c.args.entries.now c.loop-k.k no_entry in
    c.entry_key-after.ensures
    ∙ ap (λ key. thread_key key (cond (eqb e.thread c.args.thread) (without_stamps e.event ∷ []) [])) c.loop-k.invariant
    ∙ sym (thread_more c.args.key c.args.entries.now c.loop-k.k no_entry c.args.thread c.loop-k-test.true)
