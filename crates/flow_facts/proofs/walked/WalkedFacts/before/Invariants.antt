use Rattle.std.proofs.Common.{◌≡◌, ◌++◌, drop}
use Rattle.il_paths.specs.Tree.{tree_of}
use Rattle.flow_facts.proofs.ColumnLaws.{Exact, pairs_of}
use Rattle.flow_facts.proofs.walked.WalkedFacts.before.Given as goal

abbrev pub invariant-loop-pair : goal.invariant-loop-pair
invariant-loop-pair l = record {
  exact : Exact (tree_of l.f.body) l.kind l.columns;
  pairs : pairs_of l.columns ++ drop l.pair-index l.pair-items ≡ l.pair-items;
}
