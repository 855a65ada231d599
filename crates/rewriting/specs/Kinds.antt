-- Rewritings of single statements, kind by kind: those that touch registers or non-atomic locations alone, and may
-- become something else. Every other statement without blocks stays.
use Rattle.std.specs.Prelude.{ℕ}
use Rattle.values_undef.specs.declared.arithmetic.Op.{Op}
use Rattle.il_syntax.specs.declared.statement.Atom.{Atom}
use Rattle.il_syntax.specs.declared.statement.Stmt.TheOpen.{Skip, Copy, Compute, Load, Store, AtomicLoad, AtomicStore, Update, Fence, Print, If, While, Call}
use Rattle.il_paths.specs.Tree.{Leaf}

-- what is said of each of these kinds
pub record Kinds (X : Type 0) : Type 0 where
  pub skip : X
  pub copy : ℕ → Atom → X
  pub compute : ℕ → Op → Atom → Atom → X
  pub load : ℕ → ℕ → X
  pub store : ℕ → Atom → X

-- one thing of all of them
abbrev pub always : {X : Type 0} → X → Kinds X
always one = record { skip = one; copy = λ r a. one; compute = λ r op a b. one; load = λ r x. one; store = λ x a. one }

-- of a statement what is said of its kind, or of all others
abbrev pub by_kind : {X : Type 0} → Kinds X → (Leaf → X) → Leaf → X
by_kind kinds other Skip = kinds.skip
by_kind kinds other (Copy r a) = kinds.copy r a
by_kind kinds other (Compute r op a b) = kinds.compute r op a b
by_kind kinds other (Load r x) = kinds.load r x
by_kind kinds other (Store x a) = kinds.store x a
by_kind kinds other (AtomicLoad r order y) = other (AtomicLoad r order y)
by_kind kinds other (AtomicStore order y a) = other (AtomicStore order y a)
by_kind kinds other (Update r order y kind) = other (Update r order y kind)
by_kind kinds other (Fence order) = other (Fence order)
by_kind kinds other (Print a) = other (Print a)
by_kind kinds other (If a yes_block no_block) = absurd yes_block
by_kind kinds other (While a body) = absurd body
by_kind kinds other (Call r function args) = other (Call r function args)

-- every statement stays; a rewriting is this, but for the kinds that it changes
abbrev pub unchanged : Kinds Leaf
unchanged = record { skip = Skip; copy = λ r a. Copy r a; compute = λ r op a b. Compute r op a b; load = λ r x. Load r x; store = λ x a. Store x a }

-- what a statement becomes
abbrev pub rewritten_leaf : Kinds Leaf → Leaf → Leaf
rewritten_leaf kinds = by_kind kinds (λ leaf. leaf)
