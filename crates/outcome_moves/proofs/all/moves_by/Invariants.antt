use Rattle.std.proofs.Common.{◌<◌, ℕ, []}
use Rattle.outcome_nodes.specs.Standing.{node_of}
use Rattle.view_machine.specs.Held.{state_in, IsOf}
use Rattle.outcome_moves.specs.Moves.{HasMovesOf, GrowsBy, StandsFrom}
use Rattle.outcome_moves.proofs.all.moves_by.Given as goal

abbrev pub invariant-loop-thread : goal.invariant-loop-thread
invariant-loop-thread l = record {
  grows : GrowsBy l.p l.steps (node_of l.p l.steps l.entries) l.entries [] l.moves.items;
  all : (i : ℕ) → i < l.thread → HasMovesOf l.p l.steps (node_of l.p l.steps l.entries) l.moves.items i;
  stands : StandsFrom l.p l.entries l.thread (state_in l.p l.machine);
  program : IsOf l.p l.machine;
}
