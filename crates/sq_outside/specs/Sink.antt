-- What writing a text appends to a sink that tells what was written.
use Rattle.std.specs.Prelude.{ℕ, ◌≤◌, List, length, take, Option}
use Rattle.std.specs.Io.KnownBytes.{Appends}

-- A prefix of the bytes was appended.
abbrev pub AppendsPrefix : Option (List ℕ) → Option (List ℕ) → List ℕ → Type 0
AppendsPrefix before now bytes = (n : ℕ) × (n ≤ length bytes) × Appends before now (take n bytes)
