-- What reading to the end takes from a source that tells what it has left.
use Rattle.std.specs.Prelude.{◌≡◌, ℕ, ◌+◌, ◌≤◌, List, length, Option}
use Rattle.std.specs.Io.KnownBytes.{Consumes, IsAtEnd}

-- These bytes were taken, they are no more than the limit, and none is left.
pub record ConsumesAll (before now : Option (List ℕ)) (limit : ℕ) (bytes : List ℕ) : Type 0 where
  pub taken : Consumes before now bytes
  pub at_end : IsAtEnd now
  pub within : length bytes ≤ limit

-- Some first bytes were taken.
abbrev pub ConsumesPrefix : Option (List ℕ) → Option (List ℕ) → Type 0
ConsumesPrefix before now = (bytes : List ℕ) × Consumes before now bytes

-- Some first bytes were taken, no more than the limit.
abbrev pub ConsumesAtMost : Option (List ℕ) → Option (List ℕ) → ℕ → Type 0
ConsumesAtMost before now limit = (bytes : List ℕ) × Consumes before now bytes × (length bytes ≤ limit)

-- One byte more than the limit was taken.
abbrev pub ConsumesLimitAndOne : Option (List ℕ) → Option (List ℕ) → ℕ → Type 0
ConsumesLimitAndOne before now limit = (bytes : List ℕ) × Consumes before now bytes × (length bytes ≡ limit + 1)
