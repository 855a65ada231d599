-- A run is a history of its calls.
use Rattle.std.proofs.Common.{◌≡◌, ℕ, ◌<◌, Bool, true, false, List, [], ◌∷◌, length, set, refl, sym, ap, subst, arith}
use Rattle.std.proofs.lemmas.List.{set-get_or, get_or-set_same}
use Rattle.values_undef.specs.Access.{choice_of_event, is_spend}
use Rattle.values_undef.specs.declared.access.Access.TheVariants as access
use Rattle.values_undef.specs.declared.access.Choice.{Choice}
use Rattle.values_undef.specs.declared.access.Event.{Event}
use Rattle.values_undef.specs.declared.access.Event.TheVariants as event
use Rattle.values_undef.specs.declared.journal.Entry.{Entry}
use Rattle.il_syntax.specs.declared.program.Program.{Program}
use Rattle.views.specs.ThreadView.{no_view}
use Rattle.message_memory.specs.declared.history.Call.{Call}
use Rattle.message_memory.specs.Memory.{Memory}
use Rattle.message_memory.specs.Step.{step_result, IsProper}
use Rattle.message_memory.specs.History.{MemoryState, CallStep, after_call, IsHistoryFrom, MemHistory}
use Rattle.thread_core.specs.declared.next.Next.{Next}
use Rattle.thread_core.specs.declared.next.Next.TheVariants as next
use Rattle.thread_core.specs.Programs.{IsProperProgram, IsProperNext}
use Rattle.thread_core.specs.Asking.{asked}
use Rattle.thread_core.specs.Steps.{IsProperStack}
use Rattle.thread_core.proofs.Callers.{next_proper}
use Rattle.view_machine.specs.declared.stepped.Stepped.TheVariants as stepped
use Rattle.view_machine.specs.State.{State, local_in, view_in, next_in, idle, Allows, step_by, initial_state, declared_values}
use Rattle.view_machine.specs.Runs.{after_silent, AreSilent, MakesEventBy, after_event_by, IsEntry, after_entry, IsRunFrom, IsJournalRun}
use Rattle.view_machine.specs.Laws.{IsReached}
use Rattle.view_machine.specs.Merged.{seen_in}
use Rattle.view_machine.proofs.Callers.{proper_in, silent_memory, spend_is, initial_memories, initial_reached, silent_reached, event_reached, silent_views}
use Rattle.values_undef.proofs.Callers.{all_get}
use Rattle.exec_graph.specs.Calls.{access_made, call_from, calls_past, calls_in}

-- ---- silent steps

silent_step_views : (p : Program) (s : State) (i : ℕ) (c : Choice) (n : Next) → n ≡ next.Silent → (step_by p s i c n).state.views ≡ s.views
silent_step_views p s i c next.Silent e = refl
silent_step_views p s i c (next.Access a) e = cc

silent_seen : (p : Program) (i n : ℕ) (s : State) → AreSilent p i n s → seen_in (after_silent p i n s) ≡ seen_in s
silent_seen p i n s h = λ k. record { memory = silent_memory p i n s h k; views = silent_views p i n s h k }

-- ---- one entry

record Makes (s : MemoryState) (c : Call) (t : MemoryState) : Type 0 where
  step : CallStep s c (after_call s c)
  leads : t ≡ after_call s c

asks_proper : (p : Program) (m : Memory) (n : Next) → length m.na ≡ length p.na → length m.atomic ≡ length p.atomic → IsProperNext p n → IsProper m (asked n)
asks_proper p m next.Silent e f h = tt
asks_proper p m (next.Access a) e f h = proper_in p m a e f h

-- an access
makes_access : (p : Program) (s : State) (i silent : ℕ) (e : Event) (n : Next) → i < length s.views → IsProper s.memory (asked n) → Allows s.memory (view_in s i) (choice_of_event e) n
    → (step_by p s i (choice_of_event e) n).done ≡ stepped.Did e
    → Makes (seen_in s) (record { thread = i; silent = silent; access = asked n; event = e }) (seen_in (step_by p s i (choice_of_event e) n).state)
makes_access p s i silent e next.Silent l proper h q = cc
makes_access p s i silent e (next.Access a) l proper h q =
    let o = step_result s.memory (view_in s i) i a (choice_of_event e) in
    let same : o.event ≡ e = cc in
    record {
      step = record {
        there = l;
        proper = proper;
        step = record { legal = h; event = same; memory = refl; view = sym (get_or-set_same s.views i o.view no_view l) };
        views = ap (set s.views i) (sym (get_or-set_same s.views i o.view no_view l));
      };
      leads = refl;
    }

-- the end of a budget
makes_spend : (p : Program) (s : State) (i silent : ℕ) (e : Event) → i < length s.views → s.memory.failed ≡ false → e ≡ event.Spend
    → Makes (seen_in s) (record { thread = i; silent = silent; access = access.Spend; event = e }) (seen_in s)
makes_spend p s i silent e l running q =
    subst (λ (x : Event). Makes (seen_in s) (record { thread = i; silent = silent; access = access.Spend; event = x }) (seen_in s)) (sym q)
    (record {
      step = record {
        there = l;
        proper = tt;
        step = record { legal = record { running = running; admits = tt }; event = refl; memory = refl; view = sym (get_or-set_same s.views i (view_in s i) no_view l) };
        views = ap (set s.views i) (sym (get_or-set_same s.views i (view_in s i) no_view l));
      };
      leads = λ k. record { memory = s.memory; views = sym (set-get_or s.views i no_view) k };
    })

makes_event : (p : Program) (s : State) (i silent : ℕ) (e : Event) (b : Bool) → IsProperProgram p → IsReached p s → is_spend e ≡ b → MakesEventBy p s i e b
    → Makes (seen_in s) (record { thread = i; silent = silent; access = access_made b (next_in s i); event = e }) (seen_in (after_event_by p s i e b))
makes_event p s i silent e true ok r q h = makes_spend p s i silent e (omega (arith, r.views, h.able.there)) h.able.running (spend_is e q)
makes_event p s i silent e false ok r q h =
    let proper = next_proper p (local_in s i) (all_get (IsProperStack p) s.locals i idle h.step.able.there r.stacks) in
    makes_access p s i silent e (next_in s i) (omega (arith, r.views, h.step.able.there)) (asks_proper p s.memory (next_in s i) r.na r.atomic proper) h.step.allowed h.event

makes_entry : (p : Program) (s : State) (e : Entry) → IsProperProgram p → IsReached p s → IsEntry p s e → Makes (seen_in s) (call_from p s e) (seen_in (after_entry p s e))
makes_entry p s e ok r h =
    let t = after_silent p e.thread e.silent s in
    subst (λ (x : MemoryState). Makes x (call_from p s e) (seen_in (after_entry p s e))) (silent_seen p e.thread e.silent s h.silent)
    (makes_event p t e.thread e.silent e.event (is_spend e.event) ok (silent_reached p e.thread e.silent s ok r h.silent) refl h.event)

pub entry_reached : (p : Program) (s : State) (e : Entry) → IsProperProgram p → IsReached p s → IsEntry p s e → IsReached p (after_entry p s e)
entry_reached p s e ok r h =
    event_reached p (after_silent p e.thread e.silent s) e.thread e.event (is_spend e.event) ok (silent_reached p e.thread e.silent s ok r h.silent) h.event

-- ---- runs

run_history : (p : Program) (s : State) (entries : List Entry) → IsProperProgram p → IsReached p s → IsRunFrom p s entries → IsHistoryFrom (seen_in s) (calls_past p s entries)
run_history p s [] ok r h = tt
run_history p s (e ∷ more) ok r h =
    let m = makes_entry p s e ok r h.0 in
    (m.step, subst (λ (x : MemoryState). IsHistoryFrom x (calls_past p (after_entry p s e) more)) m.leads (run_history p (after_entry p s e) more ok (entry_reached p s e ok r h.0) h.1))

pub runs_are_histories : (p : Program) (entries : List Entry) → IsProperProgram p → IsJournalRun p entries → MemHistory (declared_values p.na) (declared_values p.atomic) (length p.threads) (calls_in p entries)
runs_are_histories p entries ok h = subst (λ (x : MemoryState). IsHistoryFrom x (calls_in p entries)) (sym (initial_memories p)) (run_history p (initial_state p) entries ok (initial_reached p ok) h)
