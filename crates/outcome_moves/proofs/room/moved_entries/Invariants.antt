use Rattle.std.proofs.Common.{◌≡◌, map, take}
use Rattle.memory_likeness.specs.Moved.{opened}
use Rattle.outcome_nodes.specs.Moved.{moved_entry}
use Rattle.outcome_moves.proofs.room.moved_entries.Given as goal

abbrev pub invariant-loop-k : goal.invariant-loop-k
invariant-loop-k l = l.moved.items ≡ map (moved_entry l.y (opened l.b)) (take l.k l.entries)
