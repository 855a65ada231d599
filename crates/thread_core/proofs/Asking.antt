-- Which accesses a statement asks for, and which registers an event leaves.
use Rattle.std.proofs.Common.{◌≡◌, ℕ, Bool, true, false, cond, nat_lt, List, Option, Some, None, set, refl, sym, ap}
use Rattle.std.proofs.lemmas.List.{get_or-set_other}
use Rattle.values_undef.specs.declared.value.Val.{Val}
use Rattle.values_undef.specs.declared.value.Val.TheVariants.{Def, Undef}
use Rattle.values_undef.specs.declared.access.Cause.TheVariants as cause
use Rattle.values_undef.specs.declared.access.Access.TheVariants as access
use Rattle.il_syntax.specs.declared.statement.Atom.{Atom}
use Rattle.il_syntax.specs.declared.statement.Atom.TheVariants.{Const, Reg}
use Rattle.il_syntax.specs.declared.statement.Stmt.TheOpen.{Skip, Copy, Compute, Load, Store, AtomicLoad, AtomicStore, Update, Fence, Print, If, While, Call}
use Rattle.il_syntax.specs.Statements.{Head}
use Rattle.thread_core.specs.declared.next.Next.TheVariants as next
use Rattle.thread_core.specs.Frames.{evaluated, computed, decided, next_print, told}
use Rattle.thread_core.specs.Asking.{loaded_location, AsksByHead, StatementsAskByHead, EventsKeepOthers}

computed_asks : (o : Option Val) (h : Head) → loaded_location h ≡ None → AsksByHead (computed o) h
computed_asks None h e = record { loads = sym e; goes = refl }
computed_asks (Some v) h e = record { loads = sym e; goes = refl }

decided_asks : (v : Val) (h : Head) → loaded_location h ≡ None → AsksByHead (decided v) h
decided_asks (Def n) h e = record { loads = sym e; goes = refl }
decided_asks Undef h e = record { loads = sym e; goes = refl }

printed_asks : (v : Val) (h : Head) → loaded_location h ≡ None → AsksByHead (next_print v) h
printed_asks (Def n) h e = record { loads = sym e; goes = refl }
printed_asks Undef h e = record { loads = sym e; goes = refl }

deepened_asks : (b : Bool) (h : Head) → loaded_location h ≡ None → AsksByHead (cond b next.Silent (next.Access (access.Fail cause.Depth))) h
deepened_asks true h e = record { loads = sym e; goes = refl }
deepened_asks false h e = record { loads = sym e; goes = refl }

pub asks_by_head : StatementsAskByHead
asks_by_head s depth Skip = record { loads = refl; goes = refl }
asks_by_head s depth (Copy r a) = record { loads = refl; goes = refl }
asks_by_head s depth (Compute r op a b) = computed_asks _ (Compute r op a b) refl
asks_by_head s depth (Load r x) = record { loads = refl; goes = refl }
asks_by_head s depth (Store x a) = record { loads = refl; goes = refl }
asks_by_head s depth (AtomicLoad r order y) = record { loads = refl; goes = refl }
asks_by_head s depth (AtomicStore order y a) = record { loads = refl; goes = refl }
asks_by_head s depth (Update r order y kind) = record { loads = refl; goes = refl }
asks_by_head s depth (Fence order) = record { loads = refl; goes = refl }
asks_by_head s depth (Print a) = printed_asks _ (Print a) refl
asks_by_head s depth (If a j k) = decided_asks _ (If a j k) refl
asks_by_head s depth (While a j) = decided_asks _ (While a j) refl
asks_by_head s depth (Call r f args) = deepened_asks (nat_lt depth 64) (Call r f args) refl

-- a register that is set keeps the others
pub set_others : (t : List Val) (r : ℕ) (v : Val) (a : Atom) → ((k : ℕ) → Some r ≡ Some k → a ≡ Reg k → ⊥) → evaluated (set t r v) a ≡ evaluated t a
set_others t r v (Const n) h = refl
set_others t r v (Reg k) h = get_or-set_other t r k v Undef (λ (e : k ≡ r). h r refl (ap Reg e))

pub told_others : EventsKeepOthers
told_others f None given a n = refl
told_others f (Some r) None a n = refl
told_others f (Some r) (Some v) a n = set_others f.registers r v a n
