-- The states of runs.
use Rattle.std.proofs.Common.{◌≡◌, ℕ, zero, suc, ◌+◌, ◌<◌, Bool, true, false, cond, replicate, List, [], ◌∷◌, length, map, get_or, set, refl, sym, subst, ◌∙◌, arith}
use Rattle.std.proofs.lemmas.List.{length-map, length-replicate, length-set}
use Rattle.std.specs.Prelude.{◌||◌}
use Rattle.std.specs.List.{AllByRecursion}
use Rattle.values_undef.proofs.Callers.{all_get, all_set, all_images}
use Rattle.values_undef.specs.Access.{choice_of_event, is_failure, ends_thread}
use Rattle.values_undef.specs.Journal.{is_finish}
use Rattle.values_undef.specs.declared.access.Choice.{Choice}
use Rattle.values_undef.specs.declared.access.Choice.TheVariants.{Plain}
use Rattle.values_undef.specs.declared.access.Event.{Event}
use Rattle.values_undef.specs.declared.value.Val.TheVariants.{Def}
use Rattle.il_syntax.specs.declared.program.Program.{Program}
use Rattle.il_syntax.specs.declared.program.Location.{Location}
use Rattle.il_syntax.specs.declared.program.Start.{Start}
use Rattle.views.specs.ThreadView.{zero_view}
use Rattle.message_memory.specs.Memory.{IsClosedView}
use Rattle.message_memory.specs.Step.{step_result, MemStep}
use Rattle.message_memory.specs.History.{MemoryState, IsWellFormedState, initial_memory_state as initial}
use Rattle.message_memory.proofs.Callers.{well_formed_after, all_at, initial_state_well_formed, keep_locations}
use Rattle.thread_core.specs.declared.next.Next.{Next}
use Rattle.thread_core.specs.declared.next.Next.TheVariants as next
use Rattle.thread_core.specs.Programs.{IsProperProgram, IsProperNext}
use Rattle.thread_core.specs.Frames.{Stack, advanced, resumed}
use Rattle.thread_core.specs.Steps.{IsProperStack}
use Rattle.thread_core.proofs.Callers.{advanced_proper, resumed_proper, begun_proper, next_proper}
use Rattle.values_undef.specs.declared.journal.Entry.{Entry}
use Rattle.view_machine.specs.State.{State, local_in, view_in, next_in, idle, Allows, IsStep, local_after_event, step_by, after_step, start_of, declared_values, initial_state}
use Rattle.view_machine.specs.Runs.{is_spend, after_silent, AreSilent, MakesEventBy, MakesEvent, after_event_by, after_event, after_entry, IsRunFrom, state_after, IsRunTo}
use Rattle.view_machine.specs.Laws.{IsReached}
use Rattle.view_machine.proofs.Propers.{proper_in}

stays_or_resumes : (p : Program) (l : Stack) (e : Event) (b : Bool) → IsProperStack p l → IsProperStack p (cond b l (resumed l e))
stays_or_resumes p l e true h = h
stays_or_resumes p l e false h = resumed_proper p l e h

event_proper : (p : Program) (l : Stack) (e : Event) → IsProperStack p l → IsProperStack p (local_after_event l e)
event_proper p l e h = stays_or_resumes p l e (is_failure e || ends_thread e) h

step_by_reached : (p : Program) (s : State) (i : ℕ) (c : Choice) (n : Next) → IsProperProgram p → IsReached p s → i < length s.locals → IsProperNext p n → Allows s.memory (view_in s i) c n → IsReached p (step_by p s i c n).state
step_by_reached p s i c next.Silent ok r there proper h =
    let l = advanced p (local_in s i) in
    let n = length-set s.locals i l in record {
      threads = n ∙ r.threads;
      na = r.na;
      atomic = r.atomic;
      views = r.views ∙ sym n;
      ended = r.ended ∙ sym n;
      stacks = all_set (IsProperStack p) s.locals i l (advanced_proper p (local_in s i) ok (all_get (IsProperStack p) s.locals i idle there r.stacks)) r.stacks;
      well_formed = r.well_formed;
    }
step_by_reached p s i c (next.Access a) ok r there proper h =
    let o = step_result s.memory (view_in s i) i a c in
    let l = local_after_event (local_in s i) o.event in
    let n = length-set s.locals i l in
    let seen : MemoryState = record { memory = s.memory; views = s.views } in
    let there_too : i < length s.views = omega (arith, there, r.views) in
    let fine = proper_in p s.memory a r.na r.atomic proper in
    let closed = all_at (IsClosedView s.memory) s.views i there_too r.well_formed.closed in
    let made : MemStep s.memory (view_in s i) i a c o.event o.memory o.view = record { legal = h; event = refl; memory = refl; view = refl } in
    let k = keep_locations s.memory o.memory (view_in s i) o.view i a c o.event r.well_formed.well_formed closed fine made in
    record {
      threads = n ∙ r.threads;
      na = k.0 ∙ r.na;
      atomic = k.1 ∙ r.atomic;
      views = length-set s.views i o.view ∙ r.views ∙ sym n;
      ended = length-set s.ended i (is_finish o.event) ∙ r.ended ∙ sym n;
      stacks = all_set (IsProperStack p) s.locals i l (event_proper p (local_in s i) o.event (all_get (IsProperStack p) s.locals i idle there r.stacks)) r.stacks;
      well_formed = well_formed_after seen i (view_in s i) a c o.event o.memory o.view there_too fine refl made r.well_formed;
    }

pub step_reached : (p : Program) (s : State) (i : ℕ) (c : Choice) → IsProperProgram p → IsReached p s → IsStep s i c → IsReached p (after_step p s i c).state
step_reached p s i c ok r h =
    step_by_reached p s i c (next_in s i) ok r h.able.there (next_proper p (local_in s i) (all_get (IsProperStack p) s.locals i idle h.able.there r.stacks)) h.allowed

pub silent_reached : (p : Program) (i n : ℕ) (s : State) → IsProperProgram p → IsReached p s → AreSilent p i n s → IsReached p (after_silent p i n s)
silent_reached p i zero s ok r h = r
silent_reached p i (suc n) s ok r h = silent_reached p i n (after_step p s i Plain).state ok (step_reached p s i Plain ok r h.0) h.2

pub event_reached : (p : Program) (s : State) (i : ℕ) (e : Event) (b : Bool) → IsProperProgram p → IsReached p s → MakesEventBy p s i e b → IsReached p (after_event_by p s i e b)
event_reached p s i e true ok r h = record {
  threads = r.threads;
  na = r.na;
  atomic = r.atomic;
  views = r.views;
  ended = length-set s.ended i true ∙ r.ended;
  stacks = r.stacks;
  well_formed = r.well_formed;
}
event_reached p s i e false ok r h = step_reached p s i (choice_of_event e) ok r h.step

pub makes_reached : (p : Program) (s : State) (i : ℕ) (e : Event) → IsProperProgram p → IsReached p s → MakesEvent p s i e → IsReached p (after_event p s i e)
makes_reached p s i e ok r h = event_reached p s i e (is_spend e) ok r h

pub run_reached : (p : Program) (s : State) (entries : List Entry) → IsProperProgram p → IsReached p s → IsRunFrom p s entries → IsReached p (state_after p s entries)
run_reached p s [] ok r h = r
run_reached p s (e ∷ more) ok r h =
    run_reached p (after_entry p s e) more ok
    (event_reached p (after_silent p e.thread e.silent s) e.thread e.event (is_spend e.event) ok (silent_reached p e.thread e.silent s ok r h.0.silent) h.0.event) h.1

pub length_values : (locations : List Location) → length (declared_values locations) ≡ length locations
length_values locations = length-map locations (λ l. l.value)

-- the memory's initial state, with the numbers of locations
pub initial_memories : (p : Program) → initial (declared_values p.na) (declared_values p.atomic) (length p.threads) ≡ record { memory = (initial_state p).memory; views = (initial_state p).views }
initial_memories p = λ i. record {
  memory = (initial_state p).memory;
  views = replicate (length p.threads) (zero_view (length_values p.na i + length_values p.atomic i));
}

pub initial_reached : (p : Program) → IsProperProgram p → IsReached p (initial_state p)
initial_reached p ok =
    let n : length (initial_state p).locals ≡ length p.threads = length-map p.threads (start_of p) in record {
      threads = n;
      na = length-map (declared_values p.na) _ ∙ length_values p.na;
      atomic = length-map (declared_values p.atomic) _ ∙ length_values p.atomic;
      views = length-replicate (length p.threads) _ ∙ sym n;
      ended = length-replicate (length p.threads) _ ∙ sym n;
      stacks = all_images (IsProperStack p) (start_of p) p.threads (λ (start : Start). begun_proper p start.function (map Def start.args) ok);
      well_formed = subst IsWellFormedState (initial_memories p) (initial_state_well_formed (declared_values p.na) (declared_values p.atomic) (length p.threads));
    }

pub states_whole : (p : Program) (entries : List Entry) (s : State) → IsProperProgram p → IsRunTo p entries s → IsReached p s
states_whole p entries s ok r = subst (IsReached p) r.state (run_reached p (initial_state p) entries ok (initial_reached p ok) r.run)
