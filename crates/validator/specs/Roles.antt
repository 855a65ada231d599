-- The role of each statement of a target, and which locations are pending along a path: a store to them was
-- removed, and none has been made since.
use Rattle.std.specs.Prelude.{ℕ, Bool, true, false, ◌==◌, if◌then◌else◌, List}
use Rattle.il_syntax.specs.declared.statement.Stmt.TheOpen.{Skip, Copy, Compute, Load, Store, AtomicLoad, AtomicStore, Update, Fence, Print, If, While, Call}
use Rattle.il_syntax.specs.Statements.{Head}
use Rattle.il_paths.specs.Code.{Visit}
use Rattle.il_paths.specs.Meets.{fold_forward}
pub use Rattle.validator.specs.declared.role.Role.{Role}
pub use Rattle.validator.specs.declared.role.Role.TheVariants.{Same, Turned, Removed, Inserted}

-- a store to x that isn't removed ends that x is pending
abbrev pub pending_after_head : ℕ → Head → Bool → Bool
pending_after_head x Skip before = before
pending_after_head x (Copy r a) before = before
pending_after_head x (Compute r op a b) before = before
pending_after_head x (Load r y) before = before
pending_after_head x (Store y a) before = if y == x then false else before
pending_after_head x (AtomicLoad r order y) before = before
pending_after_head x (AtomicStore order y a) before = before
pending_after_head x (Update r order y kind) before = before
pending_after_head x (Fence order) before = before
pending_after_head x (Print a) before = before
pending_after_head x (If a _ _) before = before
pending_after_head x (While a _) before = before
pending_after_head x (Call r function args) before = before

-- a removed store makes its location pending
abbrev pub pending_after_role : ℕ → Role → Head → Bool → Bool
pending_after_role x Same head before = pending_after_head x head before
pending_after_role x (Turned y a) head before = before
pending_after_role x (Removed y a) head before = if y == x then true else before
pending_after_role x Inserted head before = before

-- whether x is pending after a statement of merged code
abbrev pub pending_step : (ℕ → Role) → ℕ → Visit → Bool → Bool
pending_step role x v before = pending_after_role x (role v.site) v.head before

-- whether x is pending after the statements of a path
abbrev pub pends : (ℕ → Role) → ℕ → List Visit → Bool
pends role x path = fold_forward (pending_step role x) path false
