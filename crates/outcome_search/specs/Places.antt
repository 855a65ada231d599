-- At which places of the list of runs those stand whose nodes have a key.
use Rattle.std.specs.Prelude.{◌≡◌, ℕ, ◌<◌, Option, None, Some, Vec, List, [], length, slice_index_or}
use Rattle.std.specs.List.{Contains, AllByRecursion}
use Rattle.std.specs.BTreeMap.{BTreeMap, get}
use Rattle.std.specs.Global.{Global}
use Rattle.std.specs.Ordering.{nat_cmp}
use Rattle.values_undef.specs.declared.journal.Entry.{Entry}
use Rattle.il_syntax.specs.declared.program.Program.{Program}
use Rattle.outcome_nodes.specs.Nodes.{Node}
use Rattle.outcome_nodes.specs.Standing.{node_of}
use Rattle.equal_nodes.specs.Keys.{key_of}
use Rattle.outcome_search.specs.Runs.{nodes_of, AreKeptRuns}
use Rattle.outcome_search.specs.declared.table.Table.{Table}

abbrev pub listed_in : Option (Vec ℕ Global) → List ℕ
listed_in None = []
listed_in (Some places) = places.items

-- the places that a table lists for a key
abbrev pub places_at : BTreeMap ℕ (Vec ℕ Global) → ℕ → List ℕ
places_at places key = listed_in (get nat_cmp places key)

-- each run's place is listed for the key of its node, and only places of runs are listed
pub record ArePlaces (p : Program) (steps : ℕ) (runs : List (List Entry)) (places : ℕ → List ℕ) : Type 0 where
  pub listed : (i : ℕ) (d : List Entry) → i < length runs → Contains (places (key_of (node_of p steps (slice_index_or runs i d)).told)) i
  pub within : (key : ℕ) → AllByRecursion (λ i. i < length runs) (places key)

-- a run at one of the places ends in the node
abbrev pub HasNodeAt : Program → ℕ → List (List Entry) → List ℕ → Node → Type 0
HasNodeAt p steps runs places n = (i : ℕ) × Contains places i × (slice_index_or (nodes_of p steps runs) i n ≡ n)

pub record IsNodeTable (p : Program) (steps limit : ℕ) (table : Table) : Type 0 where
  pub runs : AreKeptRuns p steps limit table.runs.items
  pub places : ArePlaces p steps table.runs.items (places_at table.places)
