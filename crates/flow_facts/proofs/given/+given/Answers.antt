use Rattle.std.proofs.Common.{◌+◌, ◌++◌, drop, sym, ap, ◌∙◌, append_assoc}
use Rattle.il_paths.specs.Tree.{Tree, Empty, before_rest, tree_of_all}
use Rattle.il_paths.proofs.Callers.{tree_of-block}
use Rattle.flow_facts.specs.Rounds.{given_of}
use Rattle.flow_facts.proofs.GivenLaws.{given_of-drop}
use Rattle.flow_facts.proofs.given.+given.Goals as goal

pub list_given-loop-statement-init : goal.list_given-loop-statement-init
list_given-loop-statement-init t c =
    let e = tree_of-block c.args.block.now ∙ ap tree_of_all (sym c.as_slice-statement-items.ensures) in
    ap (λ (tree : Tree). c.args.given.now ++ given_of tree) (sym e)

pub list_given-loop-statement-preserved : goal.list_given-loop-statement-preserved
list_given-loop-statement-preserved t c =
    let ss = c.as_slice-statement-items.result.now in
    let i = c.loop-statement.statement-index in
    let s = c.statement-item.result in
    let had = c.loop-statement.given in
    let rest = given_of (tree_of_all (drop (i + 1) ss)) in
    ap (λ gs. gs ++ rest) c.in_ok-list_given_by.ensures ∙
    (append_assoc had (given_of (before_rest s Empty)) rest ∙
    (ap (λ gs. had ++ gs) (sym (given_of-drop ss i s c.loop-statement-test.true c.statement-item.is)) ∙ c.loop-statement.invariant))
