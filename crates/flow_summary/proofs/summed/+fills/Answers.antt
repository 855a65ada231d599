use Rattle.std.proofs.Common.{◌+◌, ◌++◌, List, drop, sym, ap, ◌∙◌, append_assoc}
use Rattle.il_paths.specs.Tree.{Empty, before_rest, tree_of_all}
use Rattle.il_paths.proofs.Callers.{tree_of-block}
use Rattle.path_meets.proofs.Callers.{exit_tree-drop, table_tree-drop}
use Rattle.flow_facts.specs.declared.level.Level.{Level}
use Rattle.flow_facts.specs.declared.known.Known.{Known}
use Rattle.flow_facts.specs.Levels.{rank_of, level_change}
use Rattle.flow_facts.specs.Rows.{level_in, column}
use Rattle.flow_summary.specs.Effects.{through, levels_of}
use Rattle.flow_summary.proofs.summed.+fills.Goals as goal

pub fill_block-loop-statement-init : goal.fill_block-loop-statement-init
fill_block-loop-statement-init t c =
    let e = tree_of-block c.args.block.now ∙ ap tree_of_all (sym c.as_slice-statement-items.ensures) in
    let row = sym (c.in_ok-row.ensures) in
    record {
      after = λ x a i. through c.args.kind x a (e i) (level_in (row i) x a);
      rows = λ x a i. column x a c.args.rows.now ++ levels_of c.args.kind x a (e i) (level_in (row i) x a);
    }

pub fill_block-loop-statement-preserved : goal.fill_block-loop-statement-preserved
fill_block-loop-statement-preserved t c =
    let ss = c.as_slice-statement-items.result.now in
    let i = c.loop-statement.statement-index in
    let s = c.statement-item.result in
    let kind = c.args.kind in
    let rest = tree_of_all (drop (i + 1) ss) in
    let row = c.loop-statement.row in
    let same = c.as_slice.ensures in
    record {
      after = λ x a.
          c.loop-statement.invariant.after x a ∙ exit_tree-drop Level rank_of 2 (level_change kind x a) ss i s (level_in row x a) c.loop-statement-test.true c.statement-item.is ∙
          ap (through kind x a rest) (sym (c.in_ok-row-2.ensures.after x a ∙ ap (λ (r : List Known). through kind x a (before_rest s Empty) (level_in r x a)) same));
      rows = λ x a.
          c.loop-statement.invariant.rows x a ∙
          (ap (λ (ls : List Level). column x a c.loop-statement.rows ++ ls) (table_tree-drop Level rank_of 2 (level_change kind x a) ss i s (level_in row x a) c.loop-statement-test.true c.statement-item.is) ∙
          (sym (append_assoc (column x a c.loop-statement.rows) (levels_of kind x a (before_rest s Empty) (level_in row x a)) (levels_of kind x a rest (through kind x a (before_rest s Empty) (level_in row x a)))) ∙
          sym (λ j. (c.in_ok-row-2.ensures.rows x a ∙ ap (λ (r : List Known). column x a c.loop-statement.rows ++ levels_of kind x a (before_rest s Empty) (level_in r x a)) same) j ++ levels_of kind x a rest ((c.in_ok-row-2.ensures.after x a ∙ ap (λ (r : List Known). through kind x a (before_rest s Empty) (level_in r x a)) same) j))));
    }
