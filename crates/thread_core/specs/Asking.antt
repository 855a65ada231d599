-- Which accesses a statement asks for, by its head.
use Rattle.std.specs.Prelude.{◌≡◌, ℕ, Bool, true, false, List, Option, Some, None}
use Rattle.values_undef.specs.declared.value.Val.{Val}
use Rattle.values_undef.specs.declared.access.Access.{Access}
use Rattle.values_undef.specs.declared.access.Access.TheVariants as access
use Rattle.il_syntax.specs.declared.statement.Atom.{Atom}
use Rattle.il_syntax.specs.declared.statement.Atom.TheVariants.{Const, Reg}
use Rattle.il_syntax.specs.declared.statement.Stmt.TheOpen.{Skip, Copy, Compute, Load, Store, AtomicLoad, AtomicStore, Update, Fence, Print, If, While, Call}
use Rattle.il_syntax.specs.Statements.{Head}
use Rattle.thread_core.specs.declared.next.Next.{Next}
use Rattle.thread_core.specs.declared.next.Next.TheVariants as next
use Rattle.thread_core.specs.Frames.{Frame, evaluated, next_at, told}

-- the access that comes next; a silent step stands for the end, which is no access to memory
abbrev pub asked : Next → Access
asked next.Silent = access.Finish
asked (next.Access a) = a

-- the location that a load reads
abbrev pub loaded_by : Access → Option ℕ
loaded_by (access.NaRead x) = Some x
loaded_by (access.NaWrite x v) = None
loaded_by (access.Read y order) = None
loaded_by (access.Write y order v) = None
loaded_by (access.Update y order kind) = None
loaded_by (access.Fence order) = None
loaded_by (access.Print v) = None
loaded_by (access.Fail cause) = None
loaded_by access.Finish = None
loaded_by access.Spend = None

abbrev pub loaded_location : Head → Option ℕ
loaded_location Skip = None
loaded_location (Copy r a) = None
loaded_location (Compute r op a b) = None
loaded_location (Load r x) = Some x
loaded_location (Store x a) = None
loaded_location (AtomicLoad r order y) = None
loaded_location (AtomicStore order y a) = None
loaded_location (Update r order y kind) = None
loaded_location (Fence order) = None
loaded_location (Print a) = None
loaded_location (If a _ _) = None
loaded_location (While a _) = None
loaded_location (Call r f args) = None

-- the access ends its thread
abbrev pub ends_by : Access → Bool
ends_by (access.NaRead x) = false
ends_by (access.NaWrite x v) = false
ends_by (access.Read y order) = false
ends_by (access.Write y order v) = false
ends_by (access.Update y order kind) = false
ends_by (access.Fence order) = false
ends_by (access.Print v) = false
ends_by (access.Fail cause) = false
ends_by access.Finish = true
ends_by access.Spend = true

abbrev pub next_ends : Next → Bool
next_ends next.Silent = false
next_ends (next.Access a) = ends_by a

-- loads are what loads ask for, and no statement asks for an end
pub record AsksByHead (n : Next) (h : Head) : Type 0 where
  pub loads : loaded_by (asked n) ≡ loaded_location h
  pub goes : next_ends n ≡ false

abbrev pub StatementsAskByHead : Type 0
StatementsAskByHead = (registers : List Val) (depth : ℕ) (h : Head) → AsksByHead (next_at registers depth h) h

-- an event changes no register but the one that takes its value
abbrev pub EventsKeepOthers : Type 0
EventsKeepOthers = (f : Frame) (r : Option ℕ) (given : Option Val) (a : Atom) → ((k : ℕ) → r ≡ Some k → a ≡ Reg k → ⊥)
    → evaluated (told f r given).registers a ≡ evaluated f.registers a
