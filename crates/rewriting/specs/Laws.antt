-- Laws of functions that are changed in place.
use Rattle.std.specs.Prelude.{◌≡◌, ℕ, true, Some, length, slice_get}
use Rattle.il_syntax.specs.declared.program.Function.{Function}
use Rattle.il_syntax.specs.WellFormed.{Declared, IsFunctionWellFormed}
use Rattle.il_syntax.specs.Checks.{head_fits}
use Rattle.il_paths.specs.Tree.{Leaf, Tree, head_of_leaf, tree_of, sites_of, heads_in}
use Rattle.rewriting.specs.Changed.{changed_tree, IsChanged}

-- a fact of each statement without blocks that the tree has, with its site
abbrev pub AtEachSite : (ℕ → Leaf → Type 0) → Tree → Type 0
AtEachSite P t = (site : ℕ) (leaf : Leaf) → slice_get (heads_in t) site ≡ Some (head_of_leaf leaf) → P site leaf

-- Changes that agree on the statements of a function make one function of it.
abbrev pub ChangedIsOne : Type 0
ChangedIsOne = (one other : ℕ → Leaf → Leaf) (f g h : Function) → AtEachSite (λ site leaf. one site leaf ≡ other site leaf) (tree_of f.body) →
    IsChanged one f g → IsChanged other f h → g ≡ h

-- All sites stay.
abbrev pub SitesStay : Type 0
SitesStay = (changed : ℕ → Leaf → Leaf) (site : ℕ) (t : Tree) → sites_of (changed_tree changed site t) ≡ sites_of t

-- Where each changed statement fits, if the one before fits, what the change makes of a function fits as the
-- function does.
abbrev pub ChangedFits : Type 0
ChangedFits = (changed : ℕ → Leaf → Leaf) (d : Declared) (f g : Function) →
    AtEachSite (λ site leaf. head_fits (length f.registers) d.na d.atomic d.params (head_of_leaf leaf) ≡ true → head_fits (length f.registers) d.na d.atomic d.params (head_of_leaf (changed site leaf)) ≡ true) (tree_of f.body) →
    IsFunctionWellFormed d f → IsChanged changed f g → IsFunctionWellFormed d g
