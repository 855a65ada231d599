use Rattle.std.proofs.Common.{◌≡◌, ℕ, ◌<◌}
use Rattle.outcome_nodes.specs.Nodes.{told_by}
use Rattle.equal_nodes.proofs.told.same_told.Given as goal

abbrev pub invariant-loop-thread : goal.invariant-loop-thread
invariant-loop-thread l = (i : ℕ) → i < l.thread → told_by l.a i ≡ told_by l.b i
