use Rattle.std.proofs.Common.{◌-◌, ◌≤◌, length}
use Rattle.std.specs.List.{Contains}
use Rattle.outcome_nodes.specs.Nodes.{first_node}
use Rattle.outcome_search.specs.Runs.{nodes_of, AreCompleteRuns}
use Rattle.outcome_search.specs.Places.{IsNodeTable}
use Rattle.outcome_search.specs.Search.{AreExplored}
use Rattle.outcome_search.proofs.search.close.Given as goal

abbrev pub invariant-loop-done : goal.invariant-loop-done
invariant-loop-done l = record {
  kept : IsNodeTable l.p l.steps l.limit l.kept;
  complete : AreCompleteRuns l.p l.steps l.failed.items;
  within : l.done ≤ length l.kept.runs.items;
  first : Contains (nodes_of l.p l.steps l.kept.runs.items) (first_node l.p l.steps);
  explored : AreExplored l.p l.steps l.done l.kept.runs.items l.failed.items;
}

abbrev pub decreases-loop-done : goal.decreases-loop-done
decreases-loop-done l = l.limit - l.done
