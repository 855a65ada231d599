-- A function tidied: what is known is read, what can be computed is, and what nothing wants is gone.
use Rattle.std.specs.Prelude.{◌≡◌, ◌↔◌, ◌<◌, ℕ, Bool, true, Option, Some, None, if◌then◌else◌}
use Rattle.values_undef.specs.Arithmetic.{result_of}
use Rattle.values_undef.specs.declared.arithmetic.Op.{Op}
use Rattle.values_undef.specs.declared.value.Val.{Val}
use Rattle.values_undef.specs.declared.value.Val.TheVariants.{Def, Undef}
use Rattle.il_syntax.specs.declared.statement.Atom.{Atom}
use Rattle.il_syntax.specs.declared.statement.Atom.TheVariants.{Const, Reg}
use Rattle.il_syntax.specs.declared.statement.Stmt.TheOpen.{Skip, Copy, Compute, Load}
use Rattle.il_syntax.specs.declared.program.Function.{Function}
use Rattle.il_paths.specs.Tree.{Leaf, tree_of, sites_of}
use Rattle.rewriting.specs.Kinds.{unchanged, rewritten_leaf}
use Rattle.rewriting.specs.Changed.{IsChanged}
use Rattle.tidy.specs.Live.{IsLive}
use Rattle.tidy.specs.Propagated.{IsPropagated}

-- a computation of constants becomes its value, where it has one
abbrev pub folded_to : Leaf → ℕ → Option Val → Leaf
folded_to leaf r (Some (Def v)) = Copy r (Const v)
folded_to leaf r (Some Undef) = leaf
folded_to leaf r None = leaf

abbrev pub folded_computation : ℕ → Op → Atom → Atom → Leaf
folded_computation r op (Const m) (Const n) = folded_to (Compute r op (Const m) (Const n)) r (result_of op (Def m) (Def n))
folded_computation r op (Const m) (Reg b) = Compute r op (Const m) (Reg b)
folded_computation r op (Reg a) b = Compute r op (Reg a) b

abbrev pub folded_leaf : Leaf → Leaf
folded_leaf = rewritten_leaf (record unchanged { compute = λ r op a b. folded_computation r op a b })

abbrev pub IsFolded : Function → Function → Type 0
IsFolded f g = IsChanged (λ site. folded_leaf) f g

-- a copy, a computation or a load without an order goes where its register isn't live
abbrev pub cleared_leaf : (ℕ → Bool) → Leaf → Leaf
cleared_leaf live =
    rewritten_leaf (record unchanged { copy = λ r a. if live r then Copy r a else Skip; compute = λ r op a b. if live r then Compute r op a b else Skip; load = λ r x. if live r then Load r x else Skip })

-- all sites are decided on f
pub record IsCleared (f g : Function) : Type 0 where
  pub live : ℕ → ℕ → Bool
  pub is_live : (site r : ℕ) → site < sites_of (tree_of f.body) → (live site r ≡ true) ↔ IsLive f site r
  pub changed : IsChanged (λ site. cleared_leaf (live site)) f g

-- one after the other: what is known is read, computations of constants are done, and what nothing wants is cleared
pub record IsTidied (f g : Function) : Type 0 where
  pub read : Function
  pub computed : Function
  pub propagated : IsPropagated f read
  pub folded : IsFolded read computed
  pub cleared : IsCleared computed g
