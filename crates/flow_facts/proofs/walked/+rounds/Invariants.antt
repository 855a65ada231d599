use Rattle.std.proofs.Common.{◌≡◌, ◌+◌, length, drop}
use Rattle.il_paths.specs.Tree.{tree_of, tree_of_all, sites_of}
use Rattle.il_paths.specs.Code.{placed}
use Rattle.flow_facts.specs.declared.level.Level.{Level}
use Rattle.flow_facts.specs.Levels.{rank_of, level_step}
use Rattle.flow_facts.specs.Rounds.{round}
use Rattle.flow_facts.proofs.walked.+rounds.Given as goal

abbrev pub invariant-round_block-loop-statement : goal.invariant-round_block-loop-statement
invariant-round_block-loop-statement l =
    let rest = tree_of_all (drop l.statement-index l.statement-items) in
    record {
      same : round Level rank_of (level_step l.kind l.pair.x l.pair.a) (placed l.site (tree_of l.block)) l.fn.levels l.fn.before ≡ round Level rank_of (level_step l.kind l.pair.x l.pair.a) (placed l.after.site rest) l.levels l.after.level;
      place : l.after.site + sites_of rest ≡ l.site + sites_of (tree_of l.block);
      long : length l.levels ≡ length l.fn.levels;
    }
