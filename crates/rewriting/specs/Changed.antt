-- Functions whose statements are changed in place: each statement without blocks becomes another one, by
-- its site. `if` and `while`, and with them all sites, stay.
use Rattle.std.specs.Prelude.{◌≡◌, ℕ, ◌+◌}
use Rattle.il_syntax.specs.declared.program.Function.{Function}
use Rattle.il_paths.specs.Tree.{Leaf, Tree, Empty, Then, IfThen, WhileThen, tree_of, sites_of}

-- the tree, counted from this site, with each statement changed
abbrev pub changed_tree : (ℕ → Leaf → Leaf) → ℕ → Tree → Tree
changed_tree changed site Empty = Empty
changed_tree changed site (Then leaf rest) = Then (changed site leaf) (changed_tree changed (site + 1) rest)
changed_tree changed site (IfThen a yes_block no_block rest) =
    IfThen a (changed_tree changed (site + 1) yes_block) (changed_tree changed (site + 1 + sites_of yes_block) no_block) (changed_tree changed (site + 1 + sites_of yes_block + sites_of no_block) rest)
changed_tree changed site (WhileThen a body rest) =
    WhileThen a (changed_tree changed (site + 1) body) (changed_tree changed (site + 1 + sites_of body) rest)

-- the two functions differ in their bodies alone
pub record SameHeads (f g : Function) : Type 0 where
  pub name : g.name ≡ f.name
  pub params : g.params ≡ f.params
  pub registers : g.registers ≡ f.registers
  pub result : g.result ≡ f.result

-- g is f with each statement of its body changed
pub record IsChanged (changed : ℕ → Leaf → Leaf) (f g : Function) : Type 0 where
  pub heads : SameHeads f g
  pub body : tree_of g.body ≡ changed_tree changed 0 (tree_of f.body)
