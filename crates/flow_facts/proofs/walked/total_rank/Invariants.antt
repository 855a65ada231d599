use Rattle.std.proofs.Common.{◌≡◌, ◌≤◌, ◌*◌, take, sum_by}
use Rattle.flow_facts.specs.Levels.{rank_of}
use Rattle.flow_facts.proofs.walked.total_rank.Given as goal

abbrev pub invariant-loop-level : goal.invariant-loop-level
invariant-loop-level l = record { total : l.total ≡ sum_by rank_of (take l.level-index l.levels); low : l.total ≤ 2 * l.level-index }
