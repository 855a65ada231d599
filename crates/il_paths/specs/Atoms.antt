-- Words on atoms: whether two are the same, and which comes first, constants by value before registers by number.
use Rattle.std.specs.Prelude.{◌≤◌, ◌≤ℤ◌, Bool, true, false, ◌==◌, nat_le, int_le, if◌then◌else◌, Option, Some, None}
use Rattle.std.specs.Ordering.{int_eq}
use Rattle.il_syntax.specs.declared.statement.Atom.{Atom}
use Rattle.il_syntax.specs.declared.statement.Atom.TheVariants.{Const, Reg}

abbrev pub atoms_equal : Atom → Atom → Bool
atoms_equal (Const m) (Const n) = int_eq m n
atoms_equal (Const m) (Reg s) = false
atoms_equal (Reg r) (Const n) = false
atoms_equal (Reg r) (Reg s) = r == s

-- the one comes no later than the other
abbrev pub AtMost : Atom → Atom → Type 0
AtMost (Const m) (Const n) = m ≤ℤ n
AtMost (Const m) (Reg s) = Unit {0}
AtMost (Reg r) (Const n) = ⊥
AtMost (Reg r) (Reg s) = r ≤ s

-- the same as a test
abbrev pub comes_first : Atom → Atom → Bool
comes_first (Const m) (Const n) = int_le m n
comes_first (Const m) (Reg s) = true
comes_first (Reg r) (Const n) = false
comes_first (Reg r) (Reg s) = nat_le r s

-- the first of an atom and another, if there is one
abbrev pub first_of : Atom → Option Atom → Atom
first_of a None = a
first_of a (Some b) = if comes_first a b then a else b
