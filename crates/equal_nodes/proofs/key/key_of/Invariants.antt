use Rattle.std.proofs.Common.{◌≡◌, map}
use Rattle.std.specs.List.{range_with_len}
use Rattle.outcome_nodes.specs.Nodes.{told_by}
use Rattle.equal_nodes.specs.Keys.{threads_key}
use Rattle.equal_nodes.proofs.key.key_of.Given as goal

abbrev pub invariant-loop-thread : goal.invariant-loop-thread
invariant-loop-thread l = l.key ≡ threads_key 1 (map (told_by l.entries) (range_with_len 0 l.thread))
