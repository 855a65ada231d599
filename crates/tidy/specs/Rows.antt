-- Rows: the pairs that are known at one place, and what a walk keeps of each pair.
use Rattle.std.specs.Prelude.{◌≡◌, ◌↔◌, ◌<◌, ℕ, Bool, true, ◌&&◌, ◌==◌, List, [], map, slice_index_or}
use Rattle.std.specs.List.{list_any}
use Rattle.il_syntax.specs.declared.statement.Atom.{Atom}
use Rattle.il_syntax.specs.declared.program.Function.{Function}
use Rattle.il_paths.specs.Atoms.{atoms_equal}
use Rattle.il_paths.specs.Tree.{Tree, tree_of, sites_of}
use Rattle.path_meets.specs.TreeWalks.{exit_tree, table_tree}
use Rattle.path_meets.specs.Chain.{must_rank}
use Rattle.tidy.specs.declared.known.KnownPair.{KnownPair}
use Rattle.tidy.specs.Known.{known_change, IsKnown, IsKnownAtEnd}

abbrev pub is_pair : ℕ → Atom → KnownPair → Bool
is_pair r a pair = (pair.r == r) && atoms_equal a pair.a

-- the pair is known in a row
abbrev pub known_in : List KnownPair → ℕ → Atom → Bool
known_in row r a = list_any (is_pair r a) row

-- of each row, whether the pair is known in it
abbrev pub known_column : ℕ → Atom → List (List KnownPair) → List Bool
known_column r a rows = map (λ row. known_in row r a) rows

-- what is known after a tree, and before each of its sites
abbrev pub exit_known : ℕ → Atom → Tree → Bool → Bool
exit_known r a tree known = exit_tree Bool must_rank 1 (known_change r a) tree known

abbrev pub table_known : ℕ → Atom → Tree → Bool → List Bool
table_known r a tree known = table_tree Bool must_rank 1 (known_change r a) tree known

-- before each site the rows have what is known there
abbrev pub AreKnownRows : Function → List (List KnownPair) → Type 0
AreKnownRows f rows = (site r : ℕ) (a : Atom) → site < sites_of (tree_of f.body) → (known_in (slice_index_or rows site []) r a ≡ true) ↔ IsKnown f site r a

-- and the last row what is known at the end
abbrev pub IsLastRow : Function → List KnownPair → Type 0
IsLastRow f row = (r : ℕ) (a : Atom) → (known_in row r a ≡ true) ↔ IsKnownAtEnd f r a
