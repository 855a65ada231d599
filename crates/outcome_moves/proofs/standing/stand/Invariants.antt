use Rattle.std.proofs.Common.{◌+◌, ◌≤◌, take, length}
use Rattle.view_machine.specs.Runs.{IsRunTo}
use Rattle.view_machine.specs.Held.{state_in, IsOf}
use Rattle.outcome_moves.proofs.standing.stand.Given as goal

abbrev pub invariant-loop-k : goal.invariant-loop-k
invariant-loop-k l = record {
  to : IsRunTo l.p (take l.k l.entries) (state_in l.p l.machine);
  program : IsOf l.p l.machine;
  room : length l.entries + 1 ≤ l.machine.spare + l.k;
}
