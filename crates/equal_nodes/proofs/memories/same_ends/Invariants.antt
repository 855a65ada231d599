use Rattle.std.proofs.Common.{◌≡◌, ℕ, take}
use Rattle.message_memory.specs.Memory.{messages, message_at}
use Rattle.outcome_moves.specs.Ends.{HasEnd}
use Rattle.equal_nodes.proofs.memories.same_ends.Given as goal

abbrev pub invariant-loop-k : goal.invariant-loop-k
invariant-loop-k l = (to : ℕ) → HasEnd (take l.k l.entries) l.y to → message_at to (messages l.a.memory l.y) ≡ message_at to (messages l.b.memory l.y)
