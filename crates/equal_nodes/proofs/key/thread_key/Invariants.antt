use Rattle.std.proofs.Common.{◌≡◌, take}
use Rattle.outcome_nodes.specs.Nodes.{told_by}
use Rattle.equal_nodes.specs.Keys.{thread_key}
use Rattle.equal_nodes.proofs.key.thread_key.Given as goal

abbrev pub invariant-loop-k : goal.invariant-loop-k
invariant-loop-k l = l.after ≡ thread_key l.fn.key (told_by (take l.k l.entries) l.thread)
