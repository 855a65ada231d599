use Rattle.std.proofs.Common.{sym, ap, ◌∙◌, arith}
use Rattle.il_paths.specs.Tree.{Tree, tree_of_all, sites_of}
use Rattle.il_paths.specs.Code.{placed}
use Rattle.il_paths.proofs.Callers.{tree_of-block, sites_of-drop}
use Rattle.flow_facts.specs.declared.level.Level.{Level}
use Rattle.flow_facts.specs.Levels.{rank_of, level_step}
use Rattle.flow_facts.specs.Rounds.{round}
use Rattle.flow_facts.proofs.RoundSteps.{round-drop}
use Rattle.flow_facts.proofs.walked.+rounds.Goals as goal

pub round_block-loop-statement-init : goal.round_block-loop-statement-init
round_block-loop-statement-init t c =
    let e = tree_of-block c.args.block.now ∙ ap tree_of_all (sym c.as_slice-statement-items.ensures) in
    record {
      same = ap (λ (tree : Tree). round Level rank_of (level_step c.args.kind c.args.pair.now.x c.args.pair.now.a) (placed c.args.site tree) c.args.levels.now c.args.before) e;
      place = let h = ap sites_of e in omega arith;
      long = omega arith;
    }

pub round_block-loop-statement-preserved : goal.round_block-loop-statement-preserved
round_block-loop-statement-preserved t c =
    let ss = c.as_slice-statement-items.result.now in
    let i = c.loop-statement.statement-index in
    let s = c.statement-item.result in
    let h = sites_of-drop ss i s c.loop-statement-test.true c.statement-item.is in
    record {
      same = rw (c.round_statement-after.ensures.site, c.round_statement-after.ensures.kept, c.round_statement-after.ensures.after) (c.loop-statement.invariant.same ∙ round-drop Level rank_of (level_step c.args.kind c.args.pair.now.x c.args.pair.now.a) ss i s c.loop-statement.after.site c.loop-statement.levels c.loop-statement.after.level c.loop-statement-test.true c.statement-item.is);
      place = omega (arith, h, c.round_statement-after.ensures.site, c.loop-statement.invariant.place);
      long = omega (arith, c.loop-statement.invariant.long, c.round_statement-after.auto.levels);
    }
