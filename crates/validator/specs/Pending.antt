-- Which locations are pending before each site of merged code, for the contracts of the walk that finds them.
use Rattle.std.specs.Prelude.{◌≡◌, ◌<◌, ◌↔◌, ℕ, Bool, true, false, List, [], ◌∷◌, slice_index_or}
use Rattle.il_paths.specs.Tree.{Tree, sites_of}
use Rattle.il_paths.specs.Code.{Code}
use Rattle.path_meets.specs.Chain.{may_rank}
use Rattle.path_meets.specs.Walks.{exit, table}
use Rattle.location_sets.specs.Sets.{has}
use Rattle.validator.specs.declared.pending.Pending.{Pending}
use Rattle.validator.specs.Roles.{Role, pending_step}
use Rattle.validator.specs.Faults.{ComesPending, EndsPending}

-- whether x is pending after code, on some path
abbrev pub pending_after : (ℕ → Role) → ℕ → Code → Bool → Bool
pending_after role x code before = exit Bool may_rank 1 (pending_step role x) code before

-- before each of its statements, in text order
abbrev pub pending_within : (ℕ → Role) → ℕ → Code → Bool → List Bool
pending_within role x code before = table Bool may_rank 1 (pending_step role x) code before

abbrev pub set_at : List (List ℕ) → ℕ → List ℕ
set_at sets site = slice_index_or sets site []

-- the sets have each location that some path says pending, and no others
pub record ArePending (merged : Tree) (role : ℕ → Role) (pending : Pending) : Type 0 where
  pub before : (site x : ℕ) → site < sites_of merged → (has x (set_at pending.before site) ≡ true) ↔ ComesPending merged role site x
  pub end : (x : ℕ) → (has x pending.end ≡ true) ↔ EndsPending merged role x

abbrev pub is_none : List ℕ → Bool
is_none [] = true
is_none (x ∷ more) = false
