use Rattle.std.proofs.Common.{◌+◌, ◌++◌, drop, sym, ap, ◌∙◌, append_assoc}
use Rattle.il_paths.specs.Tree.{Tree, Empty, before_rest, tree_of_all}
use Rattle.il_paths.proofs.Callers.{tree_of-block}
use Rattle.validator.specs.Told.{needs_of}
use Rattle.validator.proofs.NeedLaws.{needs_of-drop}
use Rattle.validator.proofs.told.+needs.Goals as goal

pub list_needs-loop-statement-init : goal.list_needs-loop-statement-init
list_needs-loop-statement-init t c =
    let e = tree_of-block c.args.block.now ∙ ap tree_of_all (sym c.as_slice-statement-items.ensures) in
    ap (λ (tree : Tree). c.args.needs.now.items ++ needs_of tree) (sym e)

pub list_needs-loop-statement-preserved : goal.list_needs-loop-statement-preserved
list_needs-loop-statement-preserved t c =
    let ss = c.as_slice-statement-items.result.now in
    let i = c.loop-statement.statement-index in
    let s = c.statement-item.result in
    let had = c.loop-statement.needs.items in
    let rest = needs_of (tree_of_all (drop (i + 1) ss)) in
    ap (λ gs. gs ++ rest) c.in_ok-list_needs_by.ensures ∙
    (append_assoc had (needs_of (before_rest s Empty)) rest ∙
    (ap (λ gs. had ++ gs) (sym (needs_of-drop ss i s c.loop-statement-test.true c.statement-item.is)) ∙ c.loop-statement.invariant))
