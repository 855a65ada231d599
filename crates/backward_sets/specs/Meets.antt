-- Sets of numbers after each site, as the least of what the paths from there say. Of yes and no either may be the
-- lower: then a number is in the set where some path says so, or where all do.
use Rattle.std.specs.Prelude.{◌<◌, ℕ, Bool, List, [], slice_index_or}
use Rattle.il_syntax.specs.Statements.{Head}
use Rattle.il_paths.specs.Tree.{Tree, sites_of}
use Rattle.il_paths.specs.Code.{placed}
use Rattle.il_paths.specs.Meets.{IsMeetAfter}
use Rattle.path_meets.specs.Chain.{IsBounded, IsMonotone}
use Rattle.location_sets.specs.Sets.{has}

-- the order of yes and no, and a change that never turns it round
pub record KeepsOrder (rank : Bool → ℕ) (change : ℕ → Head → Bool → Bool) : Type 0 where
  pub bounded : IsBounded rank 1
  pub monotone : (x : ℕ) → IsMonotone rank (λ v. change x v.head)

-- whether a number is in the set after a site is the least of what the paths from there to the end say
abbrev pub AreMeetsAfter : (Bool → ℕ) → (ℕ → Head → Bool → Bool) → Tree → List ℕ → List (List ℕ) → Type 0
AreMeetsAfter rank change tree end sets = (site x : ℕ) → site < sites_of tree → IsMeetAfter rank (λ v. change x v.head) (has x end) (placed 0 tree) site (has x (slice_index_or sets site []))
