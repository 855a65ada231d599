-- The least atom of a row, as a function. No public clause cites this file.
use Rattle.std.specs.Prelude.{ℕ, Bool, true, false, ◌&&◌, ◌==◌, if◌then◌else◌, List, [], ◌∷◌, Option, Some, None, slice_index_or}
use Rattle.il_syntax.specs.declared.statement.Atom.{Atom}
use Rattle.il_paths.specs.Atoms.{first_of}
use Rattle.flow_facts.specs.declared.level.Level.{Level}
use Rattle.flow_facts.specs.declared.level.Level.TheVariants.{Nothing, Held, Fresh}
use Rattle.flow_facts.specs.declared.known.Known.{Known}

abbrev pub is_above : Level → Bool
is_above Nothing = false
is_above Held = true
is_above Fresh = true

abbrev pub best_of : List Known → ℕ → Option Atom
best_of [] x = None
best_of (known ∷ more) x = if (known.x == x) && is_above known.level then Some (first_of known.a (best_of more x)) else best_of more x

-- before a site of a table
abbrev pub best_at : List (List Known) → ℕ → ℕ → Option Atom
best_at rows site x = best_of (slice_index_or rows site []) x
