-- Registers of a target's thread below those of its source.
use Rattle.std.specs.Prelude.{◌<◌, ℕ, List, slice_index_or}
use Rattle.values_undef.specs.Value.{IsBelow}
use Rattle.values_undef.specs.declared.value.Val.{Val}
use Rattle.values_undef.specs.declared.value.Val.TheVariants.{Undef}
pub use Rattle.values_undef.specs.Matching.{ValuesBelow, IsKindBelow}

-- a register's value
abbrev pub register : List Val → ℕ → Val
register registers r = slice_index_or registers r Undef

-- the first so many registers hold values below the other's
abbrev pub RegistersBelow : ℕ → List Val → List Val → Type 0
RegistersBelow old t s = (r : ℕ) → r < old → IsBelow (register t r) (register s r)
