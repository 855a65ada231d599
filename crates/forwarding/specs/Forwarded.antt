-- A function whose na loads became copies of the least atom that is known there.
use Rattle.std.specs.Prelude.{◌≡◌, ℕ, Option, Some, None, slice_get}
use Rattle.il_syntax.specs.declared.statement.Atom.{Atom}
use Rattle.il_syntax.specs.declared.statement.Stmt.TheOpen.{Copy, Load}
use Rattle.il_syntax.specs.declared.program.Function.{Function}
use Rattle.il_paths.specs.Tree.{Leaf, tree_of, heads_in}
use Rattle.il_paths.specs.Code.{placed}
use Rattle.rewriting.specs.Kinds.{unchanged, rewritten_leaf}
use Rattle.rewriting.specs.Changed.{IsChanged}
use Rattle.flow_facts.specs.declared.level.Kind.{Kind}
use Rattle.flow_facts.specs.Rows.{IsBest}

-- a load, or a copy of an atom in its place
abbrev pub copy_or_load : Option Atom → ℕ → ℕ → Leaf
copy_or_load None r x = Load r x
copy_or_load (Some a) r x = Copy r a

-- an na load becomes a copy where its location has an atom, and every other statement stays
abbrev pub forwarded_leaf : (ℕ → Option Atom) → Leaf → Leaf
forwarded_leaf best = rewritten_leaf (record unchanged { load = λ r x. copy_or_load (best x) r x })

-- g is f forwarded in this kind: each na load whose location has an atom above nothing there, over all
-- paths through f, is a copy of the least one, and all else stays. So all sites are decided on f.
pub record IsForwarded (kind : Kind) (f g : Function) : Type 0 where
  pub best : ℕ → ℕ → Option Atom  -- of a site and a location
  pub is_best : (site r x : ℕ) → slice_get (heads_in (tree_of f.body)) site ≡ Some (Load r x) → IsBest (placed 0 (tree_of f.body)) site kind x (best site x)
  pub changed : IsChanged (λ site. forwarded_leaf (best site)) f g
