-- Atoms that are the same, and their order.
use Rattle.std.proofs.Common.{◌≡◌, ℤ, Bool, true, false, cond, Option, Some, None, refl, sym, ap, ◌⊎◌, inl, inr, arith, ◌≤ℤ◌}
use Rattle.std.specs.Prelude.{int_le, IfSome}
use Rattle.std.proofs.lemmas.Bool.{false≢true, eqb-true, eq-eqb, leb-true, leb-false}
use Rattle.std.proofs.lemmas.Bool.Decides.{Decides-int_eq}
use Rattle.std.proofs.lemmas.Int.{ints}
use Rattle.il_syntax.specs.declared.statement.Atom.{Atom}
use Rattle.il_syntax.specs.declared.statement.Atom.TheVariants.{Const, Reg}
use Rattle.il_paths.specs.Atoms.{atoms_equal, AtMost, comes_first, first_of}

pub atoms_equal-true : (a b : Atom) → atoms_equal a b ≡ true → a ≡ b
atoms_equal-true (Const m) (Const n) e = ap Const ((Decides-int_eq m n).0 e)
atoms_equal-true (Const m) (Reg s) e = absurd (false≢true e)
atoms_equal-true (Reg r) (Const n) e = absurd (false≢true e)
atoms_equal-true (Reg r) (Reg s) e = ap Reg (eqb-true r s e)

pub atoms_equal-refl : (a : Atom) → atoms_equal a a ≡ true
atoms_equal-refl (Const m) = (Decides-int_eq m m).1 refl
atoms_equal-refl (Reg r) = eq-eqb r r refl

pub at_most_self : (a : Atom) → AtMost a a
at_most_self (Const m) = omega (arith, ints)
at_most_self (Reg r) = omega arith

pub at_most_trans : (a b c : Atom) → AtMost a b → AtMost b c → AtMost a c
at_most_trans (Const m) (Const n) (Const k) f g = omega (arith, ints)
at_most_trans (Const m) b (Reg s) f g = tt
at_most_trans (Const m) (Reg r) (Const k) f g = absurd g
at_most_trans (Reg r) (Const n) c f g = absurd f
at_most_trans (Reg r) (Reg s) (Const k) f g = absurd g
at_most_trans (Reg r) (Reg s) (Reg t) f g = omega arith

pub at_most_both : (a b : Atom) → AtMost a b → AtMost b a → a ≡ b
at_most_both (Const m) (Const n) f g = ap Const (omega (arith, ints))
at_most_both (Const m) (Reg s) f g = absurd g
at_most_both (Reg r) (Const n) f g = absurd f
at_most_both (Reg r) (Reg s) f g = ap Reg (omega arith)

le_true : (m n : ℤ) → int_le m n ≡ true → m ≤ℤ n
le_true m n e = grind (arith, ints)

le_false : (m n : ℤ) → int_le m n ≡ false → n ≤ℤ m
le_false m n e = grind (arith, ints)

first_true : (a b : Atom) → comes_first a b ≡ true → AtMost a b
first_true (Const m) (Const n) e = le_true m n e
first_true (Const m) (Reg s) e = tt
first_true (Reg r) (Const n) e = absurd (false≢true e)
first_true (Reg r) (Reg s) e = leb-true r s e

first_false : (a b : Atom) → comes_first a b ≡ false → AtMost b a
first_false (Const m) (Const n) e = le_false m n e
first_false (Const m) (Reg s) e = absurd (false≢true (sym e))
first_false (Reg r) (Const n) e = tt
first_false (Reg r) (Reg s) e = let l = leb-false r s e in omega (arith, l)

-- the first of two is one of them, and at most both
pub lower_is : (a b : Atom) → ((first_of a (Some b) ≡ a) × AtMost a b) ⊎ ((first_of a (Some b) ≡ b) × AtMost b a)
lower_is a b = go (comes_first a b) refl
  where
    go : (t : Bool) → comes_first a b ≡ t → ((cond t a b ≡ a) × AtMost a b) ⊎ ((cond t a b ≡ b) × AtMost b a)
    go true e = inl (refl, first_true a b e)
    go false e = inr (refl, first_false a b e)

pub first_is_one : (a : Atom) (other : Option Atom) → (first_of a other ≡ a) ⊎ (other ≡ Some (first_of a other))
first_is_one a None = inl refl
first_is_one a (Some b) = go (comes_first a b)
  where
    go : (t : Bool) → (cond t a b ≡ a) ⊎ (Some b ≡ Some (cond t a b))
    go true = inl refl
    go false = inr refl

pub first_is_least : (a : Atom) (other : Option Atom) → AtMost (first_of a other) a
first_is_least a None = at_most_self a
first_is_least a (Some b) = go (comes_first a b) refl
  where
    go : (t : Bool) → comes_first a b ≡ t → AtMost (cond t a b) a
    go true e = at_most_self a
    go false e = first_false a b e

pub first_is_below : (a : Atom) (other : Option Atom) → IfSome other (AtMost (first_of a other))
first_is_below a None = tt
first_is_below a (Some b) = go (comes_first a b) refl
  where
    go : (t : Bool) → comes_first a b ≡ t → AtMost (cond t a b) b
    go true e = first_true a b e
    go false e = at_most_self b
