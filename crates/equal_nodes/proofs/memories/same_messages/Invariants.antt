use Rattle.std.proofs.Common.{◌≡◌, ℕ, ◌<◌}
use Rattle.message_memory.specs.Memory.{messages}
use Rattle.equal_nodes.proofs.memories.same_messages.Given as goal

abbrev pub invariant-loop-y : goal.invariant-loop-y
invariant-loop-y l = (y : ℕ) → y < l.y → messages l.a.memory y ≡ messages l.b.memory y
