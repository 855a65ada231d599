use Rattle.std.proofs.Common.{◌+◌, List, drop, sym, ap, ◌∙◌, arith}
use Rattle.std.proofs.lemmas.List.{drop_all}
use Rattle.il_syntax.specs.declared.statement.Stmt.{Stmt}
use Rattle.il_paths.specs.Tree.{Tree, Empty, before_rest, tree_of_all, sites_of}
use Rattle.il_paths.proofs.Callers.{tree_of-block, tree_of-drop, sites_of-drop}
use Rattle.rewriting.specs.Changed.{changed_tree}
use Rattle.rewriting.specs.Puts.{puts}
use Rattle.rewriting.proofs.Puts.{puts-push, puts-empty}
use Rattle.rewriting.proofs.rewrite.+rewrites.Goals as goal

pub rewrite_block-loop-statement-init : goal.rewrite_block-loop-statement-init
rewrite_block-loop-statement-init g t c =
    let changed = g.R.Rewrite.changed c.args.rewrite.now in
    let e = tree_of-block c.args.block.now ∙ ap tree_of_all (sym c.as_slice-statement-items.ensures) in
    record {
      same = ap (λ (ss : List Stmt). puts ss (changed_tree changed c.args.site (tree_of_all c.as_slice-statement-items.result.now))) c.new-kept.ensures ∙ ap (changed_tree changed c.args.site) (sym e);
      place = let h = ap sites_of e in omega arith;
    }

pub rewrite_block-loop-statement-preserved : goal.rewrite_block-loop-statement-preserved
rewrite_block-loop-statement-preserved g t c =
    let changed = g.R.Rewrite.changed c.args.rewrite.now in
    let ss = c.as_slice-statement-items.result.now in
    let i = c.loop-statement.statement-index in
    let s = c.statement-item.result in
    let h = sites_of-drop ss i s c.loop-statement-test.true c.statement-item.is in
    let at = c.loop-statement.at in
    let rest = tree_of_all (drop (i + 1) ss) in
    let kept = c.loop-statement.kept in
    let new = c.in_ok-new.new.statement in
    let next = c.in_ok-new.ensures.site in
    let place = c.loop-statement.invariant.place in
    record {
      same = (λ j. puts (c.in_ok-push.ensures.ok j) (changed_tree changed (next j) rest)) ∙
          puts-push kept new (changed_tree changed (at + sites_of (before_rest s Empty)) rest) ∙
          ap (puts kept) (sym (c.in_ok-new.ensures.statement rest) ∙ ap (changed_tree changed at) (sym (tree_of-drop ss i s c.loop-statement-test.true c.statement-item.is))) ∙
          c.loop-statement.invariant.same;
      place = omega (arith, h, next, place);
    }

pub rewrite_block-returns-clause-block : goal.rewrite_block-returns-clause-block
rewrite_block-returns-clause-block g t c =
    let changed = g.R.Rewrite.changed c.args.rewrite.now in
    let ss = c.as_slice-statement-items.result.now in
    let kept = c.loop-statement.kept in
    let none = ap tree_of_all (drop_all c.loop-statement.statement-index ss c.loop-statement-test.false) in
    tree_of-block (record { statements = kept }) ∙ sym (puts-empty kept) ∙
    ap (λ (tree : Tree). puts kept (changed_tree changed c.loop-statement.at tree)) (sym none) ∙ c.loop-statement.invariant.same
