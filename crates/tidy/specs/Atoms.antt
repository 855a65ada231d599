-- The atoms that a statement reads, its blocks left aside.
use Rattle.std.specs.Prelude.{ℕ, Bool, List, [], ◌∷◌, slice_index_or}
use Rattle.std.specs.List.{list_any}
use Rattle.il_syntax.specs.declared.statement.Atom.{Atom}
use Rattle.il_syntax.specs.declared.statement.Atom.TheVariants.{Reg}
use Rattle.il_syntax.specs.declared.statement.Rmw.{Rmw}
use Rattle.il_syntax.specs.declared.statement.Rmw.TheVariants.{Add, Swap, Cas}
use Rattle.il_syntax.specs.declared.statement.Stmt.TheOpen.{Stmt-F, Skip, Copy, Compute, Load, Store, AtomicLoad, AtomicStore, Update, Fence, Print, If, While, Call}
use Rattle.il_syntax.specs.Statements.{Head}
use Rattle.il_paths.specs.Atoms.{atoms_equal}

-- the register is one of the atoms
abbrev pub among_atoms : ℕ → List Atom → Bool
among_atoms r atoms = list_any (λ a. atoms_equal a (Reg r)) atoms

abbrev pub atoms_of_update : Rmw → List Atom
atoms_of_update (Add a) = a ∷ []
atoms_of_update (Swap a) = a ∷ []
atoms_of_update (Cas expected new) = expected ∷ new ∷ []

-- the atoms that the statement reads
abbrev pub atoms_in : {X Y : Type 0} → Stmt-F X Y → List Atom
atoms_in Skip = []
atoms_in (Copy r a) = a ∷ []
atoms_in (Compute r op a b) = a ∷ b ∷ []
atoms_in (Load r x) = []
atoms_in (Store x a) = a ∷ []
atoms_in (AtomicLoad r order y) = []
atoms_in (AtomicStore order y a) = a ∷ []
atoms_in (Update r order y kind) = atoms_of_update kind
atoms_in (Fence order) = []
atoms_in (Print a) = a ∷ []
atoms_in (If a _ _) = a ∷ []
atoms_in (While a _) = a ∷ []
atoms_in (Call r function args) = args

-- the statement reads the register
abbrev pub reads_register : ℕ → Head → Bool
reads_register r head = among_atoms r (atoms_in head)

abbrev pub update_with : Rmw → List Atom → Rmw
update_with (Add a) atoms = Add (slice_index_or atoms 0 a)
update_with (Swap a) atoms = Swap (slice_index_or atoms 0 a)
update_with (Cas expected new) atoms = Cas (slice_index_or atoms 0 expected) (slice_index_or atoms 1 new)

-- the statement with these atoms in the place of its own
abbrev pub with_atoms : {X Y : Type 0} → Stmt-F X Y → List Atom → Stmt-F X Y
with_atoms Skip atoms = Skip
with_atoms (Copy r a) atoms = Copy r (slice_index_or atoms 0 a)
with_atoms (Compute r op a b) atoms = Compute r op (slice_index_or atoms 0 a) (slice_index_or atoms 1 b)
with_atoms (Load r x) atoms = Load r x
with_atoms (Store x a) atoms = Store x (slice_index_or atoms 0 a)
with_atoms (AtomicLoad r order y) atoms = AtomicLoad r order y
with_atoms (AtomicStore order y a) atoms = AtomicStore order y (slice_index_or atoms 0 a)
with_atoms (Update r order y kind) atoms = Update r order y (update_with kind atoms)
with_atoms (Fence order) atoms = Fence order
with_atoms (Print a) atoms = Print (slice_index_or atoms 0 a)
with_atoms (If a first second) atoms = If (slice_index_or atoms 0 a) first second
with_atoms (While a body) atoms = While (slice_index_or atoms 0 a) body
with_atoms (Call r function args) atoms = Call r function atoms
