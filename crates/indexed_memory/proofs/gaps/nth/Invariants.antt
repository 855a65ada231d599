use Rattle.std.proofs.Common.{◌≡◌, ◌-◌, ◌<◌, ◌≤◌, length, None}
use Rattle.std.specs.List.{slice_get}
use Rattle.message_memory.specs.Candidates.{choices_from}
use Rattle.indexed_memory.specs.Sorted.{history_of}
use Rattle.indexed_memory.specs.Widths.{choices_under}
use Rattle.indexed_memory.proofs.gaps.nth.Given as goal

abbrev pub invariant-loop-j : goal.invariant-loop-j
invariant-loop-j l = record {
  rest : slice_get (choices_under l.pool l.places l.seen l.a l.j) l.left ≡ slice_get (choices_from l.seen l.a None (history_of l.pool l.places)) l.k;
  within : l.j < length l.places;
  least : l.low ≤ l.j;
}

abbrev pub decreases-loop-j : goal.decreases-loop-j
decreases-loop-j l = l.j - l.low
