-- Rows: the pairs above nothing at a site. A pair that a row doesn't have is at nothing.
use Rattle.std.specs.Prelude.{ℕ, ◌≡◌, ◌≢◌, ◌<◌, Bool, ◌&&◌, ◌==◌, nat_le, if◌then◌else◌, List, [], ◌∷◌, map, Option, MatchOption, slice_index_or}
use Rattle.il_syntax.specs.declared.statement.Atom.{Atom}
use Rattle.il_paths.specs.Atoms.{AtMost, atoms_equal}
use Rattle.il_paths.specs.Tree.{Tree, sites_of}
use Rattle.il_paths.specs.Code.{Code, placed}
use Rattle.flow_facts.specs.declared.level.Kind.{Kind}
use Rattle.flow_facts.specs.declared.level.Level.{Level}
use Rattle.flow_facts.specs.declared.level.Level.TheVariants.{Nothing}
use Rattle.flow_facts.specs.declared.known.Known.{Known}
use Rattle.flow_facts.specs.Levels.{rank_of, IsLevel}

-- the higher of two levels
abbrev pub higher : Level → Level → Level
higher l m = if nat_le (rank_of l) (rank_of m) then m else l

-- whether this is the pair's
abbrev pub is_at : ℕ → Atom → Known → Bool
is_at x a known = (known.x == x) && atoms_equal a known.a

-- the level of a pair by one entry
abbrev pub level_of : Known → ℕ → Atom → Level
level_of known x a = if is_at x a known then known.level else Nothing

-- the highest level that the row has of the pair
abbrev pub level_in : List Known → ℕ → Atom → Level
level_in [] x a = Nothing
level_in (known ∷ more) x a = higher (level_of known x a) (level_in more x a)

abbrev pub with_level : Known → Level → Known
with_level known level = record { x = known.x; a = known.a; level = level }

-- the level before a site: beyond the rows it is nothing
abbrev pub level_at : List (List Known) → ℕ → ℕ → Atom → Level
level_at rows site x a = level_in (slice_index_or rows site []) x a

-- the levels of one pair, from row to row
abbrev pub column : ℕ → Atom → List (List Known) → List Level
column x a rows = map (λ row. level_in row x a) rows

-- each level is the least over all paths, of every pair, those that no statement gives among them
abbrev pub IsTable : Tree → Kind → List (List Known) → Type 0
IsTable tree kind rows = (site x : ℕ) (a : Atom) → site < sites_of tree → IsLevel (placed 0 tree) site kind x a (level_at rows site x a)

-- the pair's level before the site is above nothing
abbrev pub IsAboveNothing : Code → ℕ → Kind → ℕ → Atom → Type 0
IsAboveNothing code site kind x a = (l : Level) → IsLevel code site kind x a l → l ≢ Nothing

-- the least atom above nothing, or none where each is at nothing
abbrev pub IsBest : Code → ℕ → Kind → ℕ → Option Atom → Type 0
IsBest code site kind x best =
    MatchOption best ((a : Atom) → IsLevel code site kind x a Nothing)
    (λ b. IsAboveNothing code site kind x b × ((a : Atom) → IsAboveNothing code site kind x a → AtMost b a))

-- there is an atom, and it comes no later than this one
abbrev pub HasAtMost : Option Atom → Atom → Type 0
HasAtMost best a = MatchOption best ⊥ (λ b. AtMost b a)

-- an entry of the location
abbrev pub IsKnownOf : Known → ℕ → Type 0
IsKnownOf known x = (known.x ≡ x) × (known.level ≢ Nothing)

-- the least atom that a row has of a location, or none where it has none
abbrev pub IsLeastIn : List Known → ℕ → Option Atom → Type 0
IsLeastIn row x best =
    MatchOption best ((a : Atom) → level_in row x a ≡ Nothing)
    (λ b. (level_in row x b ≢ Nothing) × ((a : Atom) → level_in row x a ≢ Nothing → AtMost b a))

-- the same of a table, before a site
abbrev pub IsLeastKnown : List (List Known) → ℕ → ℕ → Option Atom → Type 0
IsLeastKnown rows site x best = IsLeastIn (slice_index_or rows site []) x best
