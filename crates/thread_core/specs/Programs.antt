-- Programs that the machine runs, and the accesses that they make.
use Rattle.std.specs.Prelude.{◌≡◌, ℕ, ◌<◌, ◌≤◌, true, false, length, Option, Some, None, slice_get, IsSomeAnd}
use Rattle.std.specs.List.{AllByRecursion}
use Rattle.values_undef.specs.Access.{acquires, releases, is_fence_order}
use Rattle.values_undef.specs.declared.access.Access.{Access}
use Rattle.values_undef.specs.declared.access.Access.TheVariants as access
use Rattle.thread_core.specs.declared.next.Next.{Next}
use Rattle.thread_core.specs.declared.next.Next.TheVariants as next
use Rattle.il_syntax.specs.declared.statement.Atom.{Atom}
use Rattle.il_syntax.specs.declared.statement.Atom.TheVariants.{Const, Reg}
use Rattle.il_syntax.specs.declared.statement.Rmw.{Rmw}
use Rattle.il_syntax.specs.declared.statement.Rmw.TheVariants.{Add, Swap, Cas}
use Rattle.il_syntax.specs.declared.statement.Stmt.TheOpen.{Skip, Copy, Compute, Load, Store, AtomicLoad, AtomicStore, Update, Fence, Print, If, While, Call}
use Rattle.il_syntax.specs.declared.program.Function.{Function}
use Rattle.il_syntax.specs.declared.program.Start.{Start}
use Rattle.il_syntax.specs.declared.program.Program.{Program}
use Rattle.il_syntax.specs.Statements.{Head, site_count, depth_of_all}
use Rattle.il_paths.specs.Tree.{Tree, Empty, tree_of}
use Rattle.il_paths.specs.Code.{Code, placed, AllHeads}

-- the function of this number
abbrev pub function_at : Program → ℕ → Option Function
function_at p f = slice_get p.functions f

abbrev pub body_in : Option Function → Tree
body_in None = Empty
body_in (Some f) = tree_of f.body

-- the body of the function of this number
abbrev pub body_of : Program → ℕ → Tree
body_of p f = body_in (function_at p f)

-- its code
abbrev pub code_of : Program → ℕ → Code
code_of p f = placed 0 (body_of p f)

-- the register is one of the function's
abbrev pub IsProperAtom : ℕ → Atom → Type 0
IsProperAtom registers (Const n) = Unit {0}
IsProperAtom registers (Reg r) = r < registers

abbrev pub IsProperUpdate : ℕ → Rmw → Type 0
IsProperUpdate registers (Add a) = IsProperAtom registers a
IsProperUpdate registers (Swap a) = IsProperAtom registers a
IsProperUpdate registers (Cas expected new) = IsProperAtom registers expected × IsProperAtom registers new

-- The statement names what the program and its function have. A load does not release, a store does not
-- acquire, and a fence does one of these.
abbrev pub IsProperHead : Program → ℕ → Head → Type 0
IsProperHead p registers Skip = Unit {0}
IsProperHead p registers (Copy r a) = (r < registers) × IsProperAtom registers a
IsProperHead p registers (Compute r op a b) = (r < registers) × IsProperAtom registers a × IsProperAtom registers b
IsProperHead p registers (Load r x) = (r < registers) × (x < length p.na)
IsProperHead p registers (Store x a) = (x < length p.na) × IsProperAtom registers a
IsProperHead p registers (AtomicLoad r order y) = (r < registers) × (y < length p.atomic) × (releases order ≡ false)
IsProperHead p registers (AtomicStore order y a) = (y < length p.atomic) × (acquires order ≡ false) × IsProperAtom registers a
IsProperHead p registers (Update r order y kind) = (r < registers) × (y < length p.atomic) × IsProperUpdate registers kind
IsProperHead p registers (Fence order) = is_fence_order order ≡ true
IsProperHead p registers (Print a) = IsProperAtom registers a
IsProperHead p registers (If a _ _) = IsProperAtom registers a
IsProperHead p registers (While a _) = IsProperAtom registers a
IsProperHead p registers (Call r f args) =
    (r < registers) × IsSomeAnd (function_at p f) (λ g. length args ≡ g.params) × AllByRecursion (IsProperAtom registers) args

-- A function of at most 64 registers, 8 of them parameters, and 4096 statements, with blocks at most 32
-- deep, which name what it and the program have.
pub record IsProperFunction (p : Program) (f : Function) : Type 0 where
  pub few : length f.registers ≤ 64
  pub begin : f.params ≤ length f.registers
  pub few_params : f.params ≤ 8
  pub small : site_count f.body.statements ≤ 4096
  pub shallow : depth_of_all f.body.statements ≤ 32
  pub heads : AllHeads (IsProperHead p (length f.registers)) (tree_of f.body)
  pub result : IsProperAtom (length f.registers) f.result

-- a thread calls a function of the program with as many numbers as it has parameters
abbrev pub IsProperStart : Program → Start → Type 0
IsProperStart p start = IsSomeAnd (function_at p start.function) (λ g. length start.args ≡ g.params)

-- A program that runs: each number stands for what is there, and the limits of the machine hold. Each
-- well-formed program is one.
pub record IsProperProgram (p : Program) : Type 0 where
  pub functions : AllByRecursion (IsProperFunction p) p.functions
  pub threads : AllByRecursion (IsProperStart p) p.threads
  pub few_threads : length p.threads ≤ 16
  pub few_na : length p.na ≤ 16
  pub few_atomic : length p.atomic ≤ 16

-- the access names what the program has; no thread asks for `Spend`
abbrev pub IsProperAccess : Program → Access → Type 0
IsProperAccess p (access.NaRead x) = x < length p.na
IsProperAccess p (access.NaWrite x v) = x < length p.na
IsProperAccess p (access.Read y order) = (y < length p.atomic) × (releases order ≡ false)
IsProperAccess p (access.Write y order v) = (y < length p.atomic) × (acquires order ≡ false)
IsProperAccess p (access.Update y order kind) = y < length p.atomic
IsProperAccess p (access.Fence order) = is_fence_order order ≡ true
IsProperAccess p (access.Print v) = Unit {0}
IsProperAccess p (access.Fail cause) = Unit {0}
IsProperAccess p access.Finish = Unit {0}
IsProperAccess p access.Spend = ⊥

abbrev pub IsProperNext : Program → Next → Type 0
IsProperNext p next.Silent = Unit {0}
IsProperNext p (next.Access a) = IsProperAccess p a
