use Rattle.std.proofs.Common.{◌+◌, ◌++◌, List, map, drop, sym, ap, ◌∙◌, append_assoc}
use Rattle.il_syntax.specs.Statements.{Head, head_of}
use Rattle.il_paths.specs.Tree.{Tree, Empty, before_rest, tree_of_all, heads_in}
use Rattle.il_paths.proofs.Callers.{tree_of-block}
use Rattle.tidy.proofs.HeadsListed.{heads_in-drop}
use Rattle.tidy.proofs.judging.+heads.Goals as goal

pub list_heads-loop-statement-init : goal.list_heads-loop-statement-init
list_heads-loop-statement-init t c =
    let e = tree_of-block c.args.block.now ∙ ap tree_of_all (sym c.as_slice-statement-items.ensures) in
    ap (λ (tree : Tree). map head_of c.args.heads.now.items ++ heads_in tree) (sym e)

pub list_heads-loop-statement-preserved : goal.list_heads-loop-statement-preserved
list_heads-loop-statement-preserved t c =
    let ss = c.as_slice-statement-items.result.now in
    let i = c.loop-statement.statement-index in
    let s = c.statement-item.result in
    let had = map head_of c.loop-statement.heads.items in
    let rest = heads_in (tree_of_all (drop (i + 1) ss)) in
    ap (λ (hs : List Head). hs ++ rest) c.in_ok-list_heads_by.ensures ∙
    (append_assoc had (heads_in (before_rest s Empty)) rest ∙
    (ap (λ (hs : List Head). had ++ hs) (sym (heads_in-drop ss i s c.loop-statement-test.true c.statement-item.is)) ∙ c.loop-statement.invariant))
