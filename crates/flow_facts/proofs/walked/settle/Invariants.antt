use Rattle.std.proofs.Common.{◌≡◌, length, get_or, sum_by}
use Rattle.il_paths.specs.Tree.{tree_of, sites_of}
use Rattle.il_paths.specs.Code.{placed}
use Rattle.path_meets.specs.Walks.{table}
use Rattle.flow_facts.specs.declared.level.Level.{Level}
use Rattle.flow_facts.specs.declared.level.Level.TheVariants.{Nothing, Fresh}
use Rattle.flow_facts.specs.Levels.{rank_of, level_step}
use Rattle.flow_facts.proofs.Round.{Above}
use Rattle.flow_facts.proofs.walked.settle.Given as goal

abbrev pub invariant-loop-total : goal.invariant-loop-total
invariant-loop-total l = record {
  long : length l.levels ≡ sites_of (tree_of l.block);
  above : Above Level rank_of (λ s. get_or (table Level rank_of 2 (level_step l.kind l.pair.x l.pair.a) (placed 0 (tree_of l.block)) Nothing) s Fresh) Fresh l.levels;
  all : l.total ≡ sum_by rank_of l.levels;
}

abbrev pub decreases-loop-total : goal.decreases-loop-total
decreases-loop-total l = l.total
