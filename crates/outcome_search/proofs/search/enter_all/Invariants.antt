use Rattle.std.proofs.Common.{◌⊎◌, ◌+◌, length}
use Rattle.std.specs.List.{Contains, AllByRecursion}
use Rattle.outcome_moves.specs.declared.moves.Move.{Move}
use Rattle.outcome_search.specs.Runs.{Extends, AreCompleteRuns}
use Rattle.outcome_search.specs.Places.{IsNodeTable}
use Rattle.outcome_search.specs.Search.{IsUsable, IsEntered}
use Rattle.outcome_search.proofs.search.enter_all.Given as goal

abbrev pub invariant-loop-m : goal.invariant-loop-m
invariant-loop-m l = record {
  kept : IsNodeTable l.p l._steps l.limit l.kept;
  complete : AreCompleteRuns l.p l._steps l.failed.items;
  grows : Extends l.fn.kept.runs.items l.kept.runs.items;
  grows_too : Extends l.fn.failed.items l.failed.items;
  usable : AllByRecursion (IsUsable l.p l._steps (length l.kept.runs.items + 1)) l.left.items;
  entered : (m : Move) → Contains l.fn.moves.items m → IsEntered l.p l._steps l.kept.runs.items l.failed.items m ⊎ Contains l.left.items m;
}

abbrev pub decreases-loop-m : goal.decreases-loop-m
decreases-loop-m l = length l.left.items
