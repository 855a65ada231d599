use Rattle.std.proofs.Common.{◌≡◌, take}
use Rattle.values_undef.specs.Journal.{used_steps}
use Rattle.outcome_moves.proofs.standing.used_by.Given as goal

abbrev pub invariant-loop-k : goal.invariant-loop-k
invariant-loop-k l = l.used ≡ used_steps (take l.k l.entries) l.thread
