use Rattle.std.proofs.Common.{◌≡◌, ℕ, ◌+◌, List, drop, map, sym, ap, ◌∙◌, arith}
use Rattle.std.proofs.lemmas.List.{drop_all}
use Rattle.il_syntax.specs.declared.statement.Stmt.{Stmt}
use Rattle.il_paths.specs.Tree.{Leaf, Tree, Empty, Then, before_rest, tree_of_all, sites_of}
use Rattle.il_paths.proofs.Callers.{tree_of-block, tree_of-drop, sites_of-drop, before_rest-leaf}
use Rattle.tidy.specs.Atoms.{atoms_in, with_atoms}
use Rattle.tidy.specs.Propagated.{propagated_atom, propagated_tree}
use Rattle.tidy.specs.Least.{least_at}
use Rattle.rewriting.specs.Puts.{puts}
use Rattle.rewriting.proofs.Callers.{puts-push, puts-empty, leaf_of}
use Rattle.tidy.proofs.propagate.+rewrites.Goals as goal

pub replace_block-loop-statement-init : goal.replace_block-loop-statement-init
replace_block-loop-statement-init t c =
    let least = least_at c.args.rows.now in
    let e = tree_of-block c.args.block.now ∙ ap tree_of_all (sym c.as_slice-statement-items.ensures) in
    record {
      same = ap (λ (ss : List Stmt). puts ss (propagated_tree least c.args.site (tree_of_all c.as_slice-statement-items.result.now))) c.new-kept.ensures ∙ ap (propagated_tree least c.args.site) (sym e);
      place = let h = ap sites_of e in omega arith;
    }

pub replace_block-loop-statement-preserved : goal.replace_block-loop-statement-preserved
replace_block-loop-statement-preserved t c =
    let least = least_at c.args.rows.now in
    let ss = c.as_slice-statement-items.result.now in
    let i = c.loop-statement.statement-index in
    let s = c.statement-item.result in
    let h = sites_of-drop ss i s c.loop-statement-test.true c.statement-item.is in
    let at = c.loop-statement.at in
    let rest = tree_of_all (drop (i + 1) ss) in
    let kept = c.loop-statement.kept in
    let new = c.in_ok-new.new.statement in
    let next = c.in_ok-new.ensures.site in
    let place = c.loop-statement.invariant.place in
    record {
      same = (λ j. puts (c.in_ok-push.ensures.ok j) (propagated_tree least (next j) rest)) ∙
          puts-push kept new (propagated_tree least (at + sites_of (before_rest s Empty)) rest) ∙
          ap (puts kept) (sym (c.in_ok-new.ensures.statement rest) ∙ ap (propagated_tree least at) (sym (tree_of-drop ss i s c.loop-statement-test.true c.statement-item.is))) ∙
          c.loop-statement.invariant.same;
      place = omega (arith, h, next, place);
    }

pub replace_block-returns-clause-block : goal.replace_block-returns-clause-block
replace_block-returns-clause-block t c =
    let least = least_at c.args.rows.now in
    let ss = c.as_slice-statement-items.result.now in
    let kept = c.loop-statement.kept in
    let none = ap tree_of_all (drop_all c.loop-statement.statement-index ss c.loop-statement-test.false) in
    tree_of-block (record { statements = kept }) ∙ sym (puts-empty kept) ∙
    ap (λ (tree : Tree). puts kept (propagated_tree least c.loop-statement.at tree)) (sym none) ∙ c.loop-statement.invariant.same

pub replace_statement-returns-in_ok-new-in_default : goal.replace_statement-returns-in_ok-new-in_default
replace_statement-returns-in_ok-new-in_default t c =
    let least = least_at c.args.rows.now in
    let site = c.args.site in
    let s = c.args.statement.now in
    let found = leaf_of s c.in_default.not-If c.in_default.not-While in
    let leaf = found.0 in
    let changed : Leaf = with_atoms leaf (map (propagated_atom (least site)) (atoms_in leaf)) in
    let puts_leaf = λ (rest : Tree). ap (λ (x : Stmt). before_rest x rest) found.1 ∙ before_rest-leaf leaf rest in
    let one : sites_of (before_rest s Empty) ≡ 1 = ap sites_of (puts_leaf Empty) in
    let next : site + 1 ≡ site + sites_of (before_rest s Empty) = omega (arith, one) in
    record {
      statement = λ rest.
          ap (propagated_tree least site) (puts_leaf rest) ∙ ap (λ (n : ℕ). Then changed (propagated_tree least n rest)) next
          ∙ sym (ap (λ (x : Stmt). before_rest x (propagated_tree least (site + sites_of (before_rest s Empty)) rest)) (c.in_ok-new-in_default.ensures leaf found.1) ∙ before_rest-leaf changed (propagated_tree least (site + sites_of (before_rest s Empty)) rest));
      site = next;
    }
