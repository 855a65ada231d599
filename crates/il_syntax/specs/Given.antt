-- What a statement gives and whom it calls, its blocks left out, and the values that a program declares.
use Rattle.std.specs.Prelude.{ℕ, ℤ, Bool, true, false, List, map, Option, Some, None}
use Rattle.il_syntax.specs.declared.statement.Stmt.TheOpen.{Skip, Copy, Compute, Load, Store, AtomicLoad, AtomicStore, Update, Fence, Print, If, While, Call}
use Rattle.il_syntax.specs.declared.program.Location.{Location}
use Rattle.il_syntax.specs.Statements.{Head}

-- the register to which a statement gives a value
abbrev pub gives : Head → Option ℕ
gives Skip = None
gives (Copy r a) = Some r
gives (Compute r op a b) = Some r
gives (Load r x) = Some r
gives (Store x a) = None
gives (AtomicLoad r order y) = Some r
gives (AtomicStore order y a) = None
gives (Update r order y kind) = Some r
gives (Fence order) = None
gives (Print a) = None
gives (If a first second) = None
gives (While a body) = None
gives (Call r function args) = Some r

abbrev pub is_call : Head → Bool
is_call Skip = false
is_call (Copy r a) = false
is_call (Compute r op a b) = false
is_call (Load r x) = false
is_call (Store x a) = false
is_call (AtomicLoad r order y) = false
is_call (AtomicStore order y a) = false
is_call (Update r order y kind) = false
is_call (Fence order) = false
is_call (Print a) = false
is_call (If a first second) = false
is_call (While a body) = false
is_call (Call r function args) = true

-- the values with which locations begin
abbrev pub declared_values : List Location → List ℤ
declared_values locations = map (λ l. l.value) locations
