use Rattle.std.proofs.Common.{◌≡◌, ◌⊎◌, ℕ, ◌<◌}
use Rattle.outcome_nodes.specs.Nodes.{IsFinished, IsSpent}
use Rattle.outcome_nodes.specs.Standing.{node_of, with_last_entries}
use Rattle.view_machine.specs.Held.{state_in, IsOf}
use Rattle.outcome_moves.specs.Moves.{last_state, StandsFrom}
use Rattle.outcome_moves.proofs.ending.ended_run.Given as goal

abbrev pub invariant-loop-thread : goal.invariant-loop-thread
invariant-loop-thread l = record {
  after : l.after.items ≡ with_last_entries l.p l.steps l.entries (last_state l.p l.entries) l.thread;
  ends : (j : ℕ) → j < l.thread → IsFinished (node_of l.p l.steps l.entries) j ⊎ IsSpent l.steps (node_of l.p l.steps l.entries) j;
  stands : StandsFrom l.p l.entries l.thread (state_in l.p l.machine);
  program : IsOf l.p l.machine;
}
