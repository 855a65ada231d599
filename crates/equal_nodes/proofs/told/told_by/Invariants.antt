use Rattle.std.proofs.Common.{◌≡◌, take}
use Rattle.outcome_nodes.specs.Nodes.{told_by}
use Rattle.equal_nodes.proofs.told.told_by.Given as goal

abbrev pub invariant-loop-k : goal.invariant-loop-k
invariant-loop-k l = l.told.items ≡ told_by (take l.k l.entries) l.thread
