use Rattle.std.proofs.Common.{ℕ, ◌<◌, ◌≤◌, length, map, [], get_or}
use Rattle.std.specs.List.{AllByRecursion, Contains}
use Rattle.outcome_nodes.specs.Outcome.{final_outcome_of}
use Rattle.outcome_list.specs.Order.{AreOutcomesRising}
use Rattle.outcome_list.specs.List.{IsFirstOf, found_outcome}
use Rattle.outcome_list.proofs.list.listed.Given as goal

abbrev pub invariant-loop-k : goal.invariant-loop-k
invariant-loop-k l = record {
  within : l.k ≤ length l.runs.items;
  rising : AreOutcomesRising (map found_outcome l.list.items);
  first : AllByRecursion (IsFirstOf l.p l.runs.items l.k) l.list.items;
  all : (j : ℕ) → j < l.k → Contains (map found_outcome l.list.items) (final_outcome_of l.p (get_or l.runs.items j []));
}
