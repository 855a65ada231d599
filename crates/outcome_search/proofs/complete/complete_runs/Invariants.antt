use Rattle.std.proofs.Common.{ℕ, ◌<◌, List, get_or}
use Rattle.std.specs.List.{Contains}
use Rattle.values_undef.specs.declared.journal.Entry.{Entry}
use Rattle.outcome_nodes.specs.Nodes.{Node}
use Rattle.outcome_nodes.specs.Standing.{node_of}
use Rattle.outcome_search.specs.Runs.{nodes_of, AreCompleteRuns}
use Rattle.outcome_search.specs.Search.{HasFailure, HasEnding}
use Rattle.outcome_search.proofs.complete.complete_runs.Given as goal

abbrev pub invariant-loop-k : goal.invariant-loop-k
invariant-loop-k l = record {
  complete : AreCompleteRuns l.p l.steps l.runs.items;
  failures : (n : Node) → Contains (nodes_of l.p l.steps l.kept.items) n → HasFailure l.p l.steps n l.runs.items;
  endings : (i : ℕ) (d : List Entry) → i < l.k → HasEnding l.p l.steps (node_of l.p l.steps (get_or l.kept.items i d)) l.runs.items;
}
