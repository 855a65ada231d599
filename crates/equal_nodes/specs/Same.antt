-- Memories of one program.
use Rattle.std.specs.Prelude.{◌≡◌, length}
use Rattle.message_memory.specs.Memory.{Memory, IsWellFormedMemory}

-- both are well-formed, and have as many locations
pub record AreBeside (m n : Memory) : Type 0 where
  pub first : IsWellFormedMemory m
  pub second : IsWellFormedMemory n
  pub na : length n.na ≡ length m.na
  pub atomic : length n.atomic ≡ length m.atomic
