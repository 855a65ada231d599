use Rattle.std.proofs.Common.{◌++◌, ◌∷◌, [], cond, eqb, List, get_or, take, sym, ap, ◌∙◌}
use Rattle.std.proofs.lemmas.List.{take_more}
use Rattle.values_undef.specs.declared.access.Event.{Event}
use Rattle.values_undef.specs.declared.journal.Entry.{Entry}
use Rattle.memory_likeness.specs.Likeness.{without_stamps}
use Rattle.outcome_nodes.specs.Nodes.{told_by}
use Rattle.outcome_nodes.proofs.Callers.{told_more}
use Rattle.outcome_moves.proofs.Callers.{no_entry}
use Rattle.equal_nodes.proofs.told.told_by.Goals as goal

pub loop-k-preserved : goal.loop-k-preserved
loop-k-preserved c =
    let xs = c.args.entries.now in
    let k = c.loop-k.k in
    let i = c.args.thread in
    let e = get_or xs k no_entry in
    c.in_ok-add_event.ensures
    ∙ ap (λ (r : List Event). r ++ cond (eqb e.thread i) (without_stamps e.event ∷ []) []) c.loop-k.invariant
    ∙ sym (ap (λ (ys : List Entry). told_by ys i) (take_more xs k no_entry c.loop-k-test.true) ∙ told_more (take k xs) e i)
