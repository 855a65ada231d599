-- The registers of a thread hold values, and so do its accesses.
use Rattle.std.proofs.Common.{◌≡◌, ℕ, ◌+◌, pos, Bool, true, List, [], ◌∷◌, map, length, nat_lt, Option, Some, None, IfSome, set, refl, arith}
use Rattle.std.specs.Prelude.{◌||◌}
use Rattle.std.proofs.lemmas.Bool.{cond_both}
use Rattle.std.specs.List.{AllByRecursion}
use Rattle.values_undef.proofs.Callers.{all_or, all_set, all_map, all_replicate}
use Rattle.values_undef.specs.Access.{is_failure, ends_thread}
use Rattle.values_undef.specs.Arithmetic.{result_of}
use Rattle.values_undef.specs.declared.value.Val.{Val}
use Rattle.values_undef.specs.declared.value.Val.TheVariants.{Def, Undef}
use Rattle.values_undef.specs.declared.access.UpdateKind.{UpdateKind}
use Rattle.values_undef.specs.declared.access.UpdateKind.TheVariants as kind
use Rattle.values_undef.specs.declared.access.Access.{Access}
use Rattle.values_undef.specs.declared.access.Access.TheVariants as access
use Rattle.values_undef.specs.declared.access.Event.{Event}
use Rattle.values_undef.specs.declared.access.Event.TheVariants as event
use Rattle.il_syntax.specs.declared.statement.Atom.{Atom}
use Rattle.il_syntax.specs.declared.statement.Atom.TheVariants.{Const, Reg}
use Rattle.il_syntax.specs.declared.statement.Rmw.{Rmw}
use Rattle.il_syntax.specs.declared.statement.Rmw.TheVariants as rmw
use Rattle.il_syntax.specs.declared.statement.Stmt.TheOpen.{Skip, Copy, Compute, Load, Store, AtomicLoad, AtomicStore, Update, Fence, Print, If, While, Call}
use Rattle.il_syntax.specs.declared.program.Function.{Function}
use Rattle.il_syntax.specs.declared.program.Program.{Program}
use Rattle.il_syntax.specs.Statements.{Head}
use Rattle.il_paths.specs.Code.{first_head, AllCode}
use Rattle.il_paths.proofs.Callers.{all_go, all_first}
use Rattle.thread_core.specs.declared.next.Next.{Next}
use Rattle.thread_core.specs.declared.next.Next.TheVariants as next
use Rattle.thread_core.specs.Programs.{function_at}
use Rattle.thread_core.specs.Frames.{Frame, Stack, blank, evaluated, evaluated_kind, loaded, called, begun, decided, computed, next_print, ended, next_at, next_after, next_of, passed, gave, assigned, received_by, received_at, call_register, returned, function_result, advanced_at, advanced, target_of, given_by, told, resumed}
use Rattle.view_machine.specs.State.{local_after_event}
use Rattle.journal_text.specs.Limits.{Has64Bits, IsValue}
use Rattle.walk_limits.specs.Values.{HasEventValues}
use Rattle.walk_limits.proofs.ResultValues.{result_value}
use Rattle.walk_limits.proofs.Constants.{FitsAtom, FitsOperands, FitsHead, FitsProgram, function_fits_at, code_fits}

abbrev pub AreValues : List Val → Type 0
AreValues = AllByRecursion IsValue

-- each register holds a value, and each constant still to do is a number of 64 bits
pub record FitsFrame (f : Frame) : Type 0 where
  pub registers : AreValues f.registers
  pub continuation : AllCode FitsHead f.continuation

pub record FitsStack (s : Stack) : Type 0 where
  pub top : FitsFrame s.top
  pub callers : AllByRecursion FitsFrame s.callers

abbrev pub FitsKind : UpdateKind → Type 0
FitsKind (kind.Add v) = IsValue v
FitsKind (kind.Swap v) = IsValue v
FitsKind (kind.Cas expected new) = IsValue expected × IsValue new

-- what an access hands over is a value
abbrev pub FitsAccess : Access → Type 0
FitsAccess (access.NaRead x) = Unit {0}
FitsAccess (access.NaWrite x v) = IsValue v
FitsAccess (access.Read y order) = Unit {0}
FitsAccess (access.Write y order v) = IsValue v
FitsAccess (access.Update y order kind) = FitsKind kind
FitsAccess (access.Fence order) = Unit {0}
FitsAccess (access.Print n) = Has64Bits n
FitsAccess (access.Fail cause) = Unit {0}
FitsAccess access.Finish = Unit {0}
FitsAccess access.Spend = Unit {0}

abbrev pub FitsNext : Next → Type 0
FitsNext next.Silent = Unit {0}
FitsNext (next.Access a) = FitsAccess a

-- ---- atoms

atom_value : (registers : List Val) (a : Atom) → AreValues registers → FitsAtom a → IsValue (evaluated registers a)
atom_value registers (Const n) h q = q
atom_value registers (Reg r) h q = all_or IsValue registers r Undef tt h

atom_values : (registers : List Val) (args : List Atom) → AreValues registers → AllByRecursion FitsAtom args → AreValues (map (evaluated registers) args)
atom_values registers args h q = all_map FitsAtom IsValue (evaluated registers) args (λ a f. atom_value registers a h f) q

kind_fits : (registers : List Val) (k : Rmw) → AreValues registers → FitsOperands k → FitsKind (evaluated_kind registers k)
kind_fits registers (rmw.Add a) h q = atom_value registers a h q
kind_fits registers (rmw.Swap a) h q = atom_value registers a h q
kind_fits registers (rmw.Cas expected new) h q = (atom_value registers expected h q.0, atom_value registers new h q.1)

-- ---- what a thread asks for

decided_fits : (v : Val) → FitsNext (decided v)
decided_fits (Def n) = tt
decided_fits Undef = tt

computed_fits : (o : Option Val) → FitsNext (computed o)
computed_fits (Some v) = tt
computed_fits None = tt

printed_fits : (v : Val) → IsValue v → FitsNext (next_print v)
printed_fits (Def n) h = h
printed_fits Undef h = tt

ended_fits : (callers : List Frame) → FitsNext (ended callers)
ended_fits [] = tt
ended_fits (c ∷ callers) = tt

next_at_fits : (registers : List Val) (depth : ℕ) (h : Head) → AreValues registers → FitsHead h → FitsNext (next_at registers depth h)
next_at_fits registers depth Skip v h = tt
next_at_fits registers depth (Copy r a) v h = tt
next_at_fits registers depth (Compute r op a b) v h = computed_fits (result_of op (evaluated registers a) (evaluated registers b))
next_at_fits registers depth (Load r x) v h = tt
next_at_fits registers depth (Store x a) v h = atom_value registers a v h
next_at_fits registers depth (AtomicLoad r order y) v h = tt
next_at_fits registers depth (AtomicStore order y a) v h = atom_value registers a v h
next_at_fits registers depth (Update r order y kind) v h = kind_fits registers kind v h
next_at_fits registers depth (Fence order) v h = tt
next_at_fits registers depth (Print a) v h = printed_fits (evaluated registers a) (atom_value registers a v h)
next_at_fits registers depth (If a x y) v h = decided_fits (evaluated registers a)
next_at_fits registers depth (While a x) v h = decided_fits (evaluated registers a)
next_at_fits registers depth (Call r f args) v h = cond_both (nat_lt depth 64) _ _ FitsNext (λ e. tt) (λ e. tt)

next_after_fits : (s : Stack) (o : Option Head) → first_head s.top.continuation ≡ o → FitsStack s → FitsNext (next_after s o)
next_after_fits s None e h = ended_fits s.callers
next_after_fits s (Some head) e h = next_at_fits s.top.registers (1 + length s.callers) head h.top.registers (all_first FitsHead s.top.continuation head h.top.continuation e)

-- what comes next in a thread
pub next_fits : (s : Stack) → FitsStack s → FitsNext (next_of s)
next_fits s h = next_after_fits s (first_head s.top.continuation) refl h

-- ---- one frame

passed_fits : (f : Frame) (holds : Bool) → FitsFrame f → FitsFrame (passed f holds)
passed_fits f holds h = record { registers = h.registers; continuation = all_go FitsHead f.continuation holds h.continuation }

gave_fits : (f : Frame) (r : ℕ) (v : Val) → FitsFrame f → IsValue v → FitsFrame (gave f r v)
gave_fits f r v h q = record { registers = all_set IsValue f.registers r v q h.registers; continuation = all_go FitsHead f.continuation true h.continuation }

assigned_fits : (f : Frame) (r : ℕ) (o : Option Val) → FitsFrame f → IfSome o IsValue → FitsFrame (assigned f r o)
assigned_fits f r (Some v) h q = gave_fits f r v h q
assigned_fits f r None h q = h

told_fits : (f : Frame) (r : Option ℕ) (given : Option Val) → FitsFrame f → IfSome given IsValue → FitsFrame (told f r given)
told_fits f (Some r) (Some v) h q = gave_fits f r v h q
told_fits f (Some r) None h q = passed_fits f true h
told_fits f None given h q = passed_fits f true h

received_by_fits : (f : Frame) (v : Val) (r : Option ℕ) → FitsFrame f → IsValue v → FitsFrame (received_by f v r)
received_by_fits f v (Some r) h q = gave_fits f r v h q
received_by_fits f v None h q = h

received_at_fits : (f : Frame) (v : Val) (o : Option Head) → FitsFrame f → IsValue v → FitsFrame (received_at f v o)
received_at_fits f v (Some head) h q = received_by_fits f v (call_register head) h q
received_at_fits f v None h q = h

-- ---- calls

loaded_values : (from : ℕ) (values registers : List Val) → AreValues values → AreValues registers → AreValues (loaded from values registers)
loaded_values from [] registers h q = q
loaded_values from (v ∷ values) registers h q = loaded_values (from + 1) values (set registers from v) h.1 (all_set IsValue registers from v h.0 q)

called_fits : (p : Program) (f : ℕ) (values : List Val) → FitsProgram p → AreValues values → FitsFrame (called p f values)
called_fits p f values ok h = record {
  registers = loaded_values 0 values blank h (all_replicate IsValue 64 (Def (pos 0)) (omega arith));
  continuation = code_fits p f ok;
}

pub begun_fits : (p : Program) (f : ℕ) (values : List Val) → FitsProgram p → AreValues values → FitsStack (begun p f values)
begun_fits p f values ok h = record { top = called_fits p f values ok h; callers = tt }

result_in : (p : Program) (f : Frame) (o : Option Function) → function_at p f.function ≡ o → FitsProgram p → FitsFrame f → IsValue (elim o [ Some g ↦ evaluated f.registers g.result | None ↦ Undef ])
result_in p f (Some g) e ok h = atom_value f.registers g.result h.registers (function_fits_at p f.function g ok e).result
result_in p f None e ok h = tt

result_of_fits : (p : Program) (f : Frame) → FitsProgram p → FitsFrame f → IsValue (function_result p f)
result_of_fits p f ok h = result_in p f (function_at p f.function) refl ok h

returned_fits : (p : Program) (s : Stack) (callers : List Frame) → FitsProgram p → FitsStack s → AllByRecursion FitsFrame callers → FitsStack (returned p s.top s callers)
returned_fits p s [] ok h q = h
returned_fits p s (c ∷ callers) ok h q = record {
  top = received_at_fits c (function_result p s.top) (first_head c.continuation) q.0 (result_of_fits p s.top ok h.top);
  callers = q.1;
}

-- ---- steps

with_top : (s : Stack) (f : Frame) → FitsStack s → FitsFrame f → FitsStack (record s { top = f })
with_top s f h q = record { top = q; callers = h.callers }

advanced_by_fits : (p : Program) (s : Stack) (head : Head) → FitsProgram p → FitsStack s → FitsHead head → FitsStack (advanced_at p s (Some head))
advanced_by_fits p s Skip ok h q = with_top s _ h (passed_fits s.top true h.top)
advanced_by_fits p s (Copy r a) ok h q = with_top s _ h (gave_fits s.top r _ h.top (atom_value s.top.registers a h.top.registers q))
advanced_by_fits p s (Compute r op a b) ok h q =
    with_top s _ h (assigned_fits s.top r _ h.top (result_value op (evaluated s.top.registers a) (evaluated s.top.registers b) (atom_value s.top.registers a h.top.registers q.0)))
advanced_by_fits p s (Load r x) ok h q = h
advanced_by_fits p s (Store x a) ok h q = h
advanced_by_fits p s (AtomicLoad r order y) ok h q = h
advanced_by_fits p s (AtomicStore order y a) ok h q = h
advanced_by_fits p s (Update r order y kind) ok h q = h
advanced_by_fits p s (Fence order) ok h q = h
advanced_by_fits p s (Print a) ok h q = h
advanced_by_fits p s (If a x y) ok h q = with_top s _ h (passed_fits s.top _ h.top)
advanced_by_fits p s (While a x) ok h q = with_top s _ h (passed_fits s.top _ h.top)
advanced_by_fits p s (Call r f args) ok h q = record {
  top = called_fits p f _ ok (atom_values s.top.registers args h.top.registers q);
  callers = (h.top, h.callers);
}

advanced_at_fits : (p : Program) (s : Stack) (o : Option Head) → first_head s.top.continuation ≡ o → FitsProgram p → FitsStack s → FitsStack (advanced_at p s o)
advanced_at_fits p s None e ok h = returned_fits p s s.callers ok h h.callers
advanced_at_fits p s (Some head) e ok h = advanced_by_fits p s head ok h (all_first FitsHead s.top.continuation head h.top.continuation e)

-- the thread after a silent step
pub advanced_fits : (p : Program) (s : Stack) → FitsProgram p → FitsStack s → FitsStack (advanced p s)
advanced_fits p s ok h = advanced_at_fits p s (first_head s.top.continuation) refl ok h

given_value : (e : Event) → HasEventValues e → IfSome (given_by e) IsValue
given_value (event.NaRead x v) h = h
given_value (event.NaWrite x v version) h = tt
given_value (event.Read y order v to) h = h
given_value (event.Write y order v from to) h = tt
given_value (event.Update y order old new read to) h = h.0
given_value (event.Miss y order old read) h = h
given_value (event.Fence order) h = tt
given_value (event.Print v) h = tt
given_value (event.Fail cause) h = tt
given_value (event.FailCompare y read) h = tt
given_value event.Finish h = tt
given_value event.Spend h = tt

resumed_fits : (s : Stack) (e : Event) → FitsStack s → HasEventValues e → FitsStack (resumed s e)
resumed_fits s e h q = with_top s _ h (told_fits s.top (target_of (first_head s.top.continuation)) (given_by e) h.top (given_value e q))

-- the thread after its event
pub after_event_fits : (s : Stack) (e : Event) → FitsStack s → HasEventValues e → FitsStack (local_after_event s e)
after_event_fits s e h q = cond_both (is_failure e || ends_thread e) s (resumed s e) FitsStack (λ _. h) (λ _. resumed_fits s e h q)
