-- Whether two statements are the same, their blocks left aside.
use Rattle.std.specs.Prelude.{ℕ, Bool, true, false, ◌&&◌, ◌==◌, List, [], ◌∷◌}
use Rattle.il_syntax.specs.declared.statement.Atom.{Atom}
use Rattle.values_undef.specs.declared.arithmetic.Op.{Op}
use Rattle.values_undef.specs.declared.arithmetic.Op.TheVariants as op
use Rattle.values_undef.specs.declared.access.Order.{Order}
use Rattle.values_undef.specs.declared.access.Order.TheVariants.{Rlx, Acq, Rel, AcqRel}
use Rattle.il_syntax.specs.declared.statement.Rmw.{Rmw}
use Rattle.il_syntax.specs.declared.statement.Rmw.TheVariants as rmw
use Rattle.il_syntax.specs.declared.statement.Stmt.TheOpen.{Skip, Copy, Compute, Load, Store, AtomicLoad, AtomicStore, Update, Fence, Print, If, While, Call}
use Rattle.il_syntax.specs.Statements.{Head}
use Rattle.il_paths.specs.Atoms.{atoms_equal}

abbrev pub order_number : Order → ℕ
order_number Rlx = 0
order_number Acq = 1
order_number Rel = 2
order_number AcqRel = 3

abbrev pub same_order : Order → Order → Bool
same_order order other = order_number order == order_number other

abbrev pub op_number : Op → ℕ
op_number op.Add = 0
op_number op.Sub = 1
op_number op.Mul = 2
op_number op.Div = 3
op_number op.Rem = 4
op_number op.And = 5
op_number op.Or = 6
op_number op.Xor = 7
op_number op.Eq = 8
op_number op.Ne = 9
op_number op.Lt = 10
op_number op.Le = 11

abbrev pub same_op : Op → Op → Bool
same_op one other = op_number one == op_number other

abbrev pub is_add : Atom → Rmw → Bool
is_add a (rmw.Add b) = atoms_equal a b
is_add a _ = false

abbrev pub is_swap : Atom → Rmw → Bool
is_swap a (rmw.Swap b) = atoms_equal a b
is_swap a _ = false

abbrev pub is_cas : Atom → Atom → Rmw → Bool
is_cas expected new (rmw.Cas a b) = atoms_equal expected a && atoms_equal new b
is_cas expected new _ = false

abbrev pub same_rmw : Rmw → Rmw → Bool
same_rmw (rmw.Add a) other = is_add a other
same_rmw (rmw.Swap a) other = is_swap a other
same_rmw (rmw.Cas expected new) other = is_cas expected new other

abbrev pub same_atoms : List Atom → List Atom → Bool
same_atoms [] [] = true
same_atoms [] (b ∷ bs) = false
same_atoms (a ∷ more) [] = false
same_atoms (a ∷ more) (b ∷ bs) = atoms_equal a b && same_atoms more bs

abbrev pub is_skip : Head → Bool
is_skip Skip = true
is_skip _ = false

abbrev pub is_copy : ℕ → Atom → Head → Bool
is_copy r a (Copy s b) = (r == s) && atoms_equal a b
is_copy r a _ = false

abbrev pub is_compute : ℕ → Op → Atom → Atom → Head → Bool
is_compute r op a b (Compute s other c d) = (r == s) && (same_op op other && (atoms_equal a c && atoms_equal b d))
is_compute r op a b _ = false

abbrev pub is_load : ℕ → ℕ → Head → Bool
is_load r x (Load s y) = (r == s) && (x == y)
is_load r x _ = false

abbrev pub is_store : ℕ → Atom → Head → Bool
is_store x a (Store y b) = (x == y) && atoms_equal a b
is_store x a _ = false

abbrev pub is_atomic_load : ℕ → Order → ℕ → Head → Bool
is_atomic_load r order y (AtomicLoad s other z) = (r == s) && (same_order order other && (y == z))
is_atomic_load r order y _ = false

abbrev pub is_atomic_store : Order → ℕ → Atom → Head → Bool
is_atomic_store order y a (AtomicStore other z b) = same_order order other && ((y == z) && atoms_equal a b)
is_atomic_store order y a _ = false

abbrev pub is_update : ℕ → Order → ℕ → Rmw → Head → Bool
is_update r order y kind (Update s other z own) = (r == s) && (same_order order other && ((y == z) && same_rmw kind own))
is_update r order y kind _ = false

abbrev pub is_fence : Order → Head → Bool
is_fence order (Fence other) = same_order order other
is_fence order _ = false

abbrev pub is_print : Atom → Head → Bool
is_print a (Print b) = atoms_equal a b
is_print a _ = false

abbrev pub is_if : Atom → Head → Bool
is_if a (If b then_part else_part) = atoms_equal a b
is_if a _ = false

abbrev pub is_while : Atom → Head → Bool
is_while a (While b body) = atoms_equal a b
is_while a _ = false

abbrev pub is_call : ℕ → ℕ → List Atom → Head → Bool
is_call r function args (Call s other own) = (r == s) && ((function == other) && same_atoms args own)
is_call r function args _ = false

abbrev pub same_head : Head → Head → Bool
same_head Skip other = is_skip other
same_head (Copy r a) other = is_copy r a other
same_head (Compute r op a b) other = is_compute r op a b other
same_head (Load r x) other = is_load r x other
same_head (Store x a) other = is_store x a other
same_head (AtomicLoad r order y) other = is_atomic_load r order y other
same_head (AtomicStore order y a) other = is_atomic_store order y a other
same_head (Update r order y kind) other = is_update r order y kind other
same_head (Fence order) other = is_fence order other
same_head (Print a) other = is_print a other
same_head (If a then_part else_part) other = is_if a other
same_head (While a body) other = is_while a other
same_head (Call r function args) other = is_call r function args other
