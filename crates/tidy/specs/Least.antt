-- The least atom that a row knows for a register, as the code finds it. No public clause cites this file.
use Rattle.std.specs.Prelude.{ℕ, ◌==◌, List, [], ◌∷◌, Option, Some, None, slice_index_or, if◌then◌else◌}
use Rattle.il_syntax.specs.declared.statement.Atom.{Atom}
use Rattle.il_paths.specs.Atoms.{first_of}
use Rattle.tidy.specs.declared.known.KnownPair.{KnownPair}

abbrev pub least_in : List KnownPair → ℕ → Option Atom
least_in [] r = None
least_in (pair ∷ row) r = if pair.r == r then Some (first_of pair.a (least_in row r)) else least_in row r

-- of the row before a site
abbrev pub least_at : List (List KnownPair) → ℕ → ℕ → Option Atom
least_at rows site r = least_in (slice_index_or rows site []) r
