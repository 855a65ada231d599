-- A function with a `skip` in place of each store that is overwritten first.
use Rattle.std.specs.Prelude.{◌≡◌, ◌↔◌, ◌<◌, ℕ, Bool, true, if◌then◌else◌}
use Rattle.il_syntax.specs.declared.statement.Stmt.TheOpen.{Skip, Store}
use Rattle.il_syntax.specs.declared.program.Function.{Function}
use Rattle.il_paths.specs.Tree.{Leaf, tree_of, sites_of}
use Rattle.rewriting.specs.Kinds.{unchanged, rewritten_leaf}
use Rattle.rewriting.specs.Changed.{IsChanged}
use Rattle.dead_store.specs.Overwritten.{IsOverwrittenAfter}

-- a store to a location that is dead there becomes a `skip`
abbrev pub dropped_leaf : (ℕ → Bool) → Leaf → Leaf
dropped_leaf dead = rewritten_leaf (record unchanged { store = λ x a. if dead x then Skip else Store x a })

-- `dead site x` says of each site and each location whether every path from just after the site overwrites it
-- first. All sites are decided on f, and g is f with a `skip` in place of each store that is dead.
pub record IsUndead (f g : Function) : Type 0 where
  pub dead : ℕ → ℕ → Bool
  pub overwritten : (site x : ℕ) → site < sites_of (tree_of f.body) → (dead site x ≡ true) ↔ IsOverwrittenAfter (tree_of f.body) site x
  pub changed : IsChanged (λ site. dropped_leaf (dead site)) f g
