use Rattle.std.proofs.Common.{◌+◌, drop, sym, ap, ◌∙◌}
use Rattle.il_paths.specs.Tree.{Tree, tree_of_all}
use Rattle.il_paths.proofs.Callers.{tree_of-block}
use Rattle.path_meets.specs.Walks.{meet, meet_of_turns}
use Rattle.path_meets.proofs.Callers.{exit_tree-drop, exit_tree-if, exit_tree-while}
use Rattle.flow_facts.specs.declared.level.Level.{Level}
use Rattle.flow_facts.specs.Levels.{rank_of, level_change}
use Rattle.flow_summary.specs.Effects.{at_level, through}
use Rattle.flow_summary.proofs.effect.+effects.Goals as goal

pub effect_of_statement-returns-in-If : goal.effect_of_statement-returns-in-If
effect_of_statement-returns-in-If t c level =
    c.lower.ensures level ∙ (λ i. meet Level rank_of (c.effect_of_block.ensures level i) (c.effect_of_block-in-If.ensures level i)) ∙
    sym (exit_tree-if Level rank_of 2 (level_change c.args.kind c.args.x c.args.a) c.args.statement.now c.in-If.a c.in-If.yes c.in-If.no level c.in-If.is)

pub effect_of_statement-returns-in-While : goal.effect_of_statement-returns-in-While
effect_of_statement-returns-in-While t c level =
    c.of_loop.ensures level ∙ (λ i. meet_of_turns Level rank_of 2 (λ m. c.effect_of_block-in-While.ensures m i) level) ∙
    sym (exit_tree-while Level rank_of 2 (level_change c.args.kind c.args.x c.args.a) c.args.statement.now c.in-While.a c.in-While.body level c.in-While.is)

pub effect_of_block-loop-statement-init : goal.effect_of_block-loop-statement-init
effect_of_block-loop-statement-init t c level =
    let e = tree_of-block c.args.block.now ∙ ap tree_of_all (sym c.as_slice-statement-items.ensures) in
    ap (λ (tree : Tree). through c.args.kind c.args.x c.args.a tree level) e ∙ ap (through c.args.kind c.args.x c.args.a (tree_of_all c.as_slice-statement-items.result.now)) (sym (c.none-effect.ensures level))

pub effect_of_block-loop-statement-preserved : goal.effect_of_block-loop-statement-preserved
effect_of_block-loop-statement-preserved t c level =
    let ss = c.as_slice-statement-items.result.now in
    let i = c.loop-statement.statement-index in
    let s = c.statement-item.result in
    let l = at_level c.loop-statement.effect level in
    c.loop-statement.invariant level ∙ exit_tree-drop Level rank_of 2 (level_change c.args.kind c.args.x c.args.a) ss i s l c.loop-statement-test.true c.statement-item.is ∙
    ap (through c.args.kind c.args.x c.args.a (tree_of_all (drop (i + 1) ss))) (sym (c.then-effect.ensures level ∙ c.effect_of_statement.ensures l))
