-- Changes of a function that are accepted, whichever they are: loads turned into atoms that are known, dead stores
-- removed, new loads put before loops.
use Rattle.std.specs.Prelude.{◌≡◌, ◌≤◌, ◌<◌, ℕ, Bool, true, List, [], ◌∷◌, ◌++◌, length, Option, Some, slice_get}
use Rattle.il_syntax.specs.declared.statement.Atom.{Atom}
use Rattle.il_syntax.specs.declared.statement.Stmt.TheOpen.{Load, Store}
use Rattle.il_syntax.specs.declared.program.Function.{Function}
use Rattle.il_syntax.specs.Statements.{Head}
use Rattle.il_paths.specs.Tree.{Leaf, Tree, Empty, Then, IfThen, WhileThen, tree_of, heads_in}
use Rattle.il_paths.specs.Code.{AllHeads, placed}
use Rattle.flow_facts.specs.declared.level.Kind.{Kind}
use Rattle.flow_facts.specs.Rows.{IsAboveNothing}
use Rattle.dead_store.specs.Overwritten.{IsOverwrittenAfter}
use Rattle.load_hoist.specs.declared.growth.Extra.{Extra}
use Rattle.load_hoist.specs.Introduced.{put_loads}

-- wherever a load has an atom, the pair is above nothing before it, over all paths
abbrev pub AreKnown : Kind → (ℕ → ℕ → Option Atom) → Function → Type 0
AreKnown kind atom f =
    (site r x : ℕ) (a : Atom) → slice_get (heads_in (tree_of f.body)) site ≡ Some (Load r x) → atom site x ≡ Some a → IsAboveNothing (placed 0 (tree_of f.body)) site kind x a

-- wherever a store is called dead, its location is overwritten first on every path from it
abbrev pub AreDead : (ℕ → ℕ → Bool) → Function → Type 0
AreDead dead f =
    (site x : ℕ) (a : Atom) → slice_get (heads_in (tree_of f.body)) site ≡ Some (Store x a) → dead site x ≡ true → IsOverwrittenAfter (tree_of f.body) site x

-- each load gives a register from `old` up to `end`
abbrev pub AreNew : ℕ → ℕ → List Extra → Type 0
AreNew old end [] = Unit {0}
AreNew old end (extra ∷ more) = (old ≤ extra.r) × (extra.r < end) × AreNew old end more

-- the second tree is the first one with new loads put before some of its loops
pub data HasNewLoads (old end : ℕ) : Tree → Tree → Type 0 where
  nothing : HasNewLoads old end Empty Empty
  keeps : (leaf : Leaf) {s t : Tree} → HasNewLoads old end s t → HasNewLoads old end (Then leaf s) (Then leaf t)
  branches : (a : Atom) {y y' n n' s t : Tree} → HasNewLoads old end y y' → HasNewLoads old end n n' → HasNewLoads old end s t → HasNewLoads old end (IfThen a y n s) (IfThen a y' n' t)
  loops : (a : Atom) (loads : List Extra) {d d' s t : Tree} → AreNew old end loads → HasNewLoads old end d d' → HasNewLoads old end s t → HasNewLoads old end (WhileThen a d s) (put_loads loads (WhileThen a d' t))

-- the statement is no load into a register from `old` on
abbrev pub LoadsOld : ℕ → Head → Type 0
LoadsOld old head = (r x : ℕ) → head ≡ Load r x → r < old

-- g is f with new loads, into registers that it has beyond those of f
pub record IsGrown (f g : Function) : Type 0 where
  pub name : g.name ≡ f.name
  pub params : g.params ≡ f.params
  pub result : g.result ≡ f.result
  pub more : List (List ℕ)
  pub registers : g.registers ≡ f.registers ++ more
  pub old : AllHeads (LoadsOld (length f.registers)) (tree_of f.body)
  pub body : HasNewLoads (length f.registers) (length g.registers) (tree_of f.body) (tree_of g.body)
