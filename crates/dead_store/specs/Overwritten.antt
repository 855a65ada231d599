-- Locations that are overwritten before they are needed, on all paths.
use Rattle.std.specs.Prelude.{◌≡◌, ◌↔◌, ◌<◌, ℕ, Bool, true, false, ◌==◌, List, [], ◌∷◌, ◌++◌, slice_index_or}
use Rattle.il_syntax.specs.declared.statement.Stmt.TheOpen.{Skip, Copy, Compute, Load, Store, AtomicLoad, AtomicStore, Update, Fence, Print, If, While, Call}
use Rattle.il_syntax.specs.Statements.{Head}
use Rattle.il_paths.specs.Heads.{is_release}
use Rattle.il_paths.specs.Code.{Visit, placed}
use Rattle.il_paths.specs.Tree.{Tree, sites_of}
use Rattle.il_paths.specs.Paths.{After}
use Rattle.location_sets.specs.Sets.{has}

-- the statement is a store to x without an order
abbrev pub stores_to : ℕ → Head → Bool
stores_to x Skip = false
stores_to x (Copy r a) = false
stores_to x (Compute r op a b) = false
stores_to x (Load r y) = false
stores_to x (Store y a) = y == x
stores_to x (AtomicLoad r order y) = false
stores_to x (AtomicStore order y a) = false
stores_to x (Update r order y kind) = false
stores_to x (Fence order) = false
stores_to x (Print a) = false
stores_to x (If a _ _) = false
stores_to x (While a _) = false
stores_to x (Call r function args) = false

-- the statement needs what x holds: a load of x without an order, a release or a call
abbrev pub needs : ℕ → Head → Bool
needs x Skip = false
needs x (Copy r a) = false
needs x (Compute r op a b) = false
needs x (Load r y) = y == x
needs x (Store y a) = false
needs x (AtomicLoad r order y) = is_release (AtomicLoad r order y)
needs x (AtomicStore order y a) = is_release (AtomicStore order y a)
needs x (Update r order y kind) = is_release (Update r order y kind)
needs x (Fence order) = is_release (Fence order)
needs x (Print a) = false
needs x (If a _ _) = false
needs x (While a _) = false
needs x (Call r function args) = true

-- it does neither; an acquire that is no release is such a statement
abbrev pub passes_by : ℕ → Head → Type 0
passes_by x head = (stores_to x head ≡ false) × (needs x head ≡ false)

abbrev pub AllPassBy : ℕ → List Visit → Type 0
AllPassBy x [] = Unit {0}
AllPassBy x (v ∷ p) = passes_by x v.head × AllPassBy x p

-- on the path stands a store to x, and nothing before it needs x
pub record IsOverwrittenFirst (x : ℕ) (q : List Visit) : Type 0 where
  pub before : List Visit
  pub store : Visit
  pub after : List Visit
  pub is : q ≡ before ++ store ∷ after
  pub stores : stores_to x store.head ≡ true
  pub untouched : AllPassBy x before

-- every path from just after the site to the end overwrites x first
abbrev pub IsOverwrittenAfter : Tree → (site x : ℕ) → Type 0
IsOverwrittenAfter tree site x = (q : List Visit) → After (placed 0 tree) site q → IsOverwrittenFirst x q

-- the sets have each location exactly where that is so
abbrev pub AreOverwritten : Tree → List (List ℕ) → Type 0
AreOverwritten tree sets =
    (site x : ℕ) → site < sites_of tree → (has x (slice_index_or sets site []) ≡ true) ↔ IsOverwrittenAfter tree site x
