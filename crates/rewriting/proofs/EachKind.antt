-- A fact of each statement without blocks, with what two tables by kinds say of it.
use Rattle.std.proofs.Common.{ℕ}
use Rattle.values_undef.specs.declared.arithmetic.Op.{Op}
use Rattle.il_syntax.specs.declared.statement.Atom.{Atom}
use Rattle.il_syntax.specs.declared.statement.Stmt.TheOpen.{Skip, Copy, Compute, Load, Store, AtomicLoad, AtomicStore, Update, Fence, Print, If, While, Call}
use Rattle.il_paths.specs.Tree.{Leaf}
use Rattle.rewriting.specs.Kinds.{Kinds, by_kind, rewritten_leaf}

module _ {X Y : Type 0} (P : Leaf → X → Y → Type 0) (first : Kinds X) (first_other : Leaf → X) (second : Kinds Y) (second_other : Leaf → Y) where
  -- what is to be shown of each kind
  pub record OfEachKind : Type 0 where
    pub skip : P Skip first.skip second.skip
    pub copy : (r : ℕ) (a : Atom) → P (Copy r a) (first.copy r a) (second.copy r a)
    pub compute : (r : ℕ) (op : Op) (a b : Atom) → P (Compute r op a b) (first.compute r op a b) (second.compute r op a b)
    pub load : (r x : ℕ) → P (Load r x) (first.load r x) (second.load r x)
    pub store : (x : ℕ) (a : Atom) → P (Store x a) (first.store x a) (second.store x a)
    pub other : (leaf : Leaf) → P leaf (first_other leaf) (second_other leaf)

  pub each_kind : OfEachKind → (leaf : Leaf) → P leaf (by_kind first first_other leaf) (by_kind second second_other leaf)
  each_kind each Skip = each.skip
  each_kind each (Copy r a) = each.copy r a
  each_kind each (Compute r op a b) = each.compute r op a b
  each_kind each (Load r x) = each.load r x
  each_kind each (Store x a) = each.store x a
  each_kind each (AtomicLoad r order y) = each.other (AtomicLoad r order y)
  each_kind each (AtomicStore order y a) = each.other (AtomicStore order y a)
  each_kind each (Update r order y kind) = each.other (Update r order y kind)
  each_kind each (Fence order) = each.other (Fence order)
  each_kind each (Print a) = each.other (Print a)
  each_kind each (If a yes_block no_block) = absurd yes_block
  each_kind each (While a body) = absurd body
  each_kind each (Call r function args) = each.other (Call r function args)

-- the same of what a rewriting makes
pub each_rewritten : (P : Leaf → Leaf → Type 0) (kinds : Kinds Leaf) → OfEachKind (λ leaf new _. P leaf new) kinds (λ leaf. leaf) kinds (λ leaf. leaf) → (leaf : Leaf) → P leaf (rewritten_leaf kinds leaf)
each_rewritten P kinds = each_kind (λ leaf new _. P leaf new) kinds (λ leaf. leaf) kinds (λ leaf. leaf)
