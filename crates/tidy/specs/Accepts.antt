-- When a function may stand for another: its atoms are known to be the other's, its computations are done or left,
-- and assignments that nothing wants are gone.
use Rattle.std.specs.Prelude.{◌≡◌, ℕ, ℤ, List, Option, Some, None, slice_get}
use Rattle.std.specs.List.{AllZip}
use Rattle.values_undef.specs.Arithmetic.{result_of}
use Rattle.values_undef.specs.declared.value.Val.TheVariants.{Def}
use Rattle.values_undef.specs.declared.arithmetic.Op.{Op}
use Rattle.il_syntax.specs.declared.statement.Atom.{Atom}
use Rattle.il_syntax.specs.declared.statement.Atom.TheVariants.{Const, Reg}
use Rattle.il_syntax.specs.declared.statement.Stmt.TheOpen.{Skip, Copy, Compute, Load, Store, AtomicLoad, AtomicStore, Update, Fence, Print, If, While, Call}
use Rattle.il_syntax.specs.declared.program.Function.{Function}
use Rattle.il_syntax.specs.Statements.{Head}
use Rattle.il_paths.specs.Tree.{Tree, Empty, Then, IfThen, WhileThen, tree_of, heads_in}
use Rattle.tidy.specs.Atoms.{atoms_in, with_atoms}
use Rattle.tidy.specs.Known.{IsKnown, IsKnownAtEnd}
use Rattle.tidy.specs.Live.{IsLive}

-- The second atom is the first, or one known for its register.
pub data StandsFor (known : ℕ → Atom → Type 0) (a b : Atom) : Type 0 where
  same : a ≡ b → StandsFor known a b
  known_for : (r : ℕ) → a ≡ Reg r → known r b → StandsFor known a b

-- the register that an assignment gives, if it may be left: a copy, a computation or a load without an order
abbrev pub assigned_register : Head → Option ℕ
assigned_register Skip = None
assigned_register (Copy r a) = Some r
assigned_register (Compute r op a b) = Some r
assigned_register (Load r x) = Some r
assigned_register (Store x a) = None
assigned_register (AtomicLoad r order y) = None
assigned_register (AtomicStore order y a) = None
assigned_register (Update r order y kind) = None
assigned_register (Fence order) = None
assigned_register (Print a) = None
assigned_register (If a _ _) = None
assigned_register (While a _) = None
assigned_register (Call r function args) = None

-- A statement of g may stand for the one of f at its site.
pub data StatementAccepted (f g : Function) (site : ℕ) (old new : Head) : Type 0 where
  same_but_atoms : (atoms : List Atom) → AllZip (StandsFor (IsKnown f site)) (atoms_in old) atoms → new ≡ with_atoms old atoms → StatementAccepted f g site old new
  is_folded : (r : ℕ) (op : Op) (a b : Atom) (m n v : ℤ) → old ≡ Compute r op a b → new ≡ Copy r (Const v) → StandsFor (IsKnown f site) a (Const m) → StandsFor (IsKnown f site) b (Const n) → result_of op (Def m) (Def n) ≡ Some (Def v)
      → StatementAccepted f g site old new
  is_left : (r : ℕ) → assigned_register old ≡ Some r → new ≡ Skip → (IsLive g site r → ⊥) → StatementAccepted f g site old new

-- As many statements, and place by place both are `if`, both are `while`, or neither is one of these, with inner
-- blocks equal in the same way.
abbrev pub SameBlocks : Tree → Tree → Type 0
SameBlocks Empty Empty = Unit {0}
SameBlocks (Then one rest) (Then other more) = SameBlocks rest more
SameBlocks (IfThen a yes_block no_block rest) (IfThen b yes_other no_other more) = SameBlocks yes_block yes_other × SameBlocks no_block no_other × SameBlocks rest more
SameBlocks (WhileThen a body rest) (WhileThen b other more) = SameBlocks body other × SameBlocks rest more
SameBlocks _ _ = ⊥

-- each statement of g may stand for the one of f
abbrev pub StatementsAccepted : Function → Function → Type 0
StatementsAccepted f g = (site : ℕ) (old new : Head) → slice_get (heads_in (tree_of f.body)) site ≡ Some old → slice_get (heads_in (tree_of g.body)) site ≡ Some new → StatementAccepted f g site old new

-- f accepts g
pub record TidyAccepts (f g : Function) : Type 0 where
  pub name : g.name ≡ f.name
  pub params : g.params ≡ f.params
  pub registers : g.registers ≡ f.registers
  pub blocks : SameBlocks (tree_of f.body) (tree_of g.body)
  pub statements : StatementsAccepted f g
  pub result : StandsFor (IsKnownAtEnd f) f.result g.result
