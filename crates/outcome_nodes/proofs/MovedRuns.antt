-- A run with moved timestamps is a run.
use Rattle.std.proofs.Common.{◌≡◌, ⊎_elim, ℕ, zero, suc, ◌+◌, ◌<◌, Bool, true, false, List, [], ◌∷◌, length, map, replicate, get_or, set, refl, sym, ap, ◌∙◌, subst, arith}
use Rattle.std.proofs.lemmas.Bool.{cond_both}
use Rattle.std.proofs.lemmas.List.{length-map, map-set, set-set, get_or-set_same}
use Rattle.std.proofs.Math.ListN.{get_or-map}
use Rattle.std.proofs.lemmas.List.{get_or-map as get_or-map_within, set-get_or, ext_get_or}
use Rattle.std.specs.Prelude.{ℤ, pos}
use Rattle.views.proofs.Callers.{get_or-zeros}
use Rattle.memory_likeness.proofs.Callers.{view_same, stamp_rises}
use Rattle.memory_likeness.proofs.Callers.{moved_message, message_same, memory_same, length-moved_memory, messages_moved}
use Rattle.std.specs.List.{AllByRecursion}
use Rattle.values_undef.specs.Access.{choice_of_event, is_spend}
use Rattle.values_undef.specs.Journal.{is_finish}
use Rattle.values_undef.specs.declared.access.Access.{Access}
use Rattle.values_undef.specs.declared.access.Access.TheVariants as access
use Rattle.values_undef.specs.declared.access.Choice.{Choice}
use Rattle.values_undef.specs.declared.access.Choice.TheVariants.{Plain, Message, Place, Take}
use Rattle.values_undef.specs.declared.access.Event.{Event}
use Rattle.values_undef.specs.declared.access.Event.TheVariants.{NaRead, NaWrite, Read, Write, Update, Miss, Fence, Print, Fail, FailCompare, Finish, Spend}
use Rattle.values_undef.specs.declared.journal.Entry.{Entry}
use Rattle.il_syntax.specs.declared.program.Program.{Program}
use Rattle.views.specs.ThreadView.{ThreadView, no_view, zero_view}
use Rattle.message_memory.specs.declared.message.Message.{Message as TheMessage}
use Rattle.message_memory.specs.Memory.{Memory, Messages, messages, view_index, first_message, initial_memory, IsClosed, IsClosedView}
use Rattle.message_memory.specs.Step.{AdmitsChoice, IsLegal, IsProper, StepResult, step_result, is_racy, meets_undef, read_at}
use Rattle.message_memory.specs.Candidates.{location_of}
use Rattle.message_memory.proofs.Callers.{all_at}
use Rattle.thread_core.specs.declared.next.Next.{Next}
use Rattle.thread_core.specs.declared.next.Next.TheVariants as next
use Rattle.thread_core.specs.Programs.{IsProperProgram, IsProperNext}
use Rattle.thread_core.specs.Frames.{Stack, next_of}
use Rattle.thread_core.specs.Alone.{local_after_event}
use Rattle.thread_core.proofs.Callers.{next_proper}
use Rattle.view_machine.specs.declared.stepped.Stepped.TheVariants as stepped
use Rattle.view_machine.specs.State.{State, StepTaken, local_in, with_local, view_in, next_in, idle, IsRunning, step_by, after_step, declared_values, initial_state}
use Rattle.view_machine.specs.Runs.{after_silent, AreSilent, MakesEventBy, after_event_by, after_event, MakesEvent, IsEntry, after_entry, IsRunFrom, state_after}
use Rattle.view_machine.specs.Laws.{IsReached}
use Rattle.view_machine.proofs.Callers.{silent_steps_local, going_with, access_made, proper_in, run_reached, initial_reached}
use Rattle.memory_likeness.specs.Moved.{IsRisingMap, moved_times, moved_view, moved_stamp, moved_choice, moved_event, moved, HaveAllPlaces, IsMovedStep}
use Rattle.memory_likeness.proofs.Callers.{steps_moved}
use Rattle.outcome_nodes.specs.Moved.{moved_entry, moved_state, RunsAreMoved}
use Rattle.outcome_nodes.proofs.Entries.{Spends, Makes, EntryDone, entry_done}
use Rattle.outcome_nodes.proofs.Following.{local_then}
use Rattle.outcome_nodes.proofs.Missing.{local_proper}

-- ---- events

pub spend_moved : (y : ℕ) (g : ℕ → ℕ) (e : Event) → is_spend (moved_event y g e) ≡ is_spend e
spend_moved y g (NaRead x v) = refl
spend_moved y g (NaWrite x v n) = refl
spend_moved y g (Read z o v to) = refl
spend_moved y g (Write z o v a b) = refl
spend_moved y g (Update z o a b c d) = refl
spend_moved y g (Miss z o v a) = refl
spend_moved y g (Fence order) = refl
spend_moved y g (Print v) = refl
spend_moved y g (Fail cause) = refl
spend_moved y g (FailCompare z read) = refl
spend_moved y g Finish = refl
spend_moved y g Spend = refl

pub finish_moved : (y : ℕ) (g : ℕ → ℕ) (e : Event) → is_finish (moved_event y g e) ≡ is_finish e
finish_moved y g (NaRead x v) = refl
finish_moved y g (NaWrite x v n) = refl
finish_moved y g (Read z o v to) = refl
finish_moved y g (Write z o v a b) = refl
finish_moved y g (Update z o a b c d) = refl
finish_moved y g (Miss z o v a) = refl
finish_moved y g (Fence order) = refl
finish_moved y g (Print v) = refl
finish_moved y g (Fail cause) = refl
finish_moved y g (FailCompare z read) = refl
finish_moved y g Finish = refl
finish_moved y g Spend = refl

pub local_moved : (y : ℕ) (g : ℕ → ℕ) (l : Stack) (e : Event) → local_after_event l (moved_event y g e) ≡ local_after_event l e
local_moved y g l (NaRead x v) = refl
local_moved y g l (NaWrite x v n) = refl
local_moved y g l (Read z o v to) = refl
local_moved y g l (Write z o v a b) = refl
local_moved y g l (Update z o a b c d) = refl
local_moved y g l (Miss z o v a) = refl
local_moved y g l (Fence order) = refl
local_moved y g l (Print v) = refl
local_moved y g l (Fail cause) = refl
local_moved y g l (FailCompare z read) = refl
local_moved y g l Finish = refl
local_moved y g l Spend = refl

-- the choice that a moved event tells
choice_moved : (m : Memory) (v : ThreadView) (i : ℕ) (a : Access) (c : Choice) (y : ℕ) (g : ℕ → ℕ) → AdmitsChoice m v a c
    → choice_of_event (moved_event y g (step_result m v i a c).event) ≡ moved_choice y g (location_of a) c
choice_moved m v i (access.NaRead x) Plain y g h = refl
choice_moved m v i (access.NaWrite x n) Plain y g h = cond_both (is_racy m v x) _ _ (λ (o : StepResult). choice_of_event (moved_event y g o.event) ≡ Plain) (λ _. refl) (λ _. refl)
choice_moved m v i (access.Read z order) (Message to) y g h = refl
choice_moved m v i (access.Write z order n) (Place from to) y g h = refl
choice_moved m v i (access.Update z order kind) (Message to) y g h = cond_both (meets_undef kind (read_at m z to).value) _ _ (λ (o : StepResult). choice_of_event (moved_event y g o.event) ≡ Message (moved_stamp y g z to)) (λ _. refl) (λ _. refl)
choice_moved m v i (access.Update z order kind) (Take read to) y g h = refl
choice_moved m v i (access.Fence order) Plain y g h = refl
choice_moved m v i (access.Print n) Plain y g h = refl
choice_moved m v i (access.Fail cause) Plain y g h = refl
choice_moved m v i access.Finish Plain y g h = refl
choice_moved m v i access.Spend Plain y g h = refl
choice_moved m v i _ _ y g h = absurd h

-- ---- an entry

all_long : (m : Memory) (h : Messages) → AllByRecursion (λ n. IsClosed m n.times) h → AllByRecursion (λ n. length n.times ≡ length m.na + length m.atomic) h
all_long m [] c = tt
all_long m (n ∷ h) c = (c.0.locations, all_long m h c.1)

pub record IsMovedEntry (p : Program) (s : State) (e : Entry) (y : ℕ) (g : ℕ → ℕ) : Type 0 where
  pub entry : IsEntry p (moved_state y g s) (moved_entry y g e)
  pub state : after_entry p (moved_state y g s) (moved_entry y g e) ≡ moved_state y g (after_entry p s e)

module _ (p : Program) (s : State) (e : Entry) (y : ℕ) (g : ℕ → ℕ) (ok : IsProperProgram p) (reached : IsReached p s) (r : IsRisingMap g) (l : y < length p.atomic) (d : EntryDone p s e) (na_kept : length (after_entry p s e).memory.na ≡ length s.memory.na) where
  abbrev place : ℕ
  place = view_index s.memory y

  abbrev S : State
  S = moved_state y g s

  abbrev E : Entry
  E = moved_entry y g e

  abbrev local : Stack
  local = local_then p s e

  abbrev T : State
  T = with_local S e.thread local

  running : IsRunning S e.thread
  running = record { there = d.running.there; going = d.running.going; running = d.running.running }

  running_then : IsRunning T e.thread
  running_then = going_with S e.thread local running

  silent : AreSilent p e.thread e.silent S × (after_silent p e.thread e.silent S ≡ T)
  silent = silent_steps_local p e.thread e.silent S running d.silent

  here : local_in T e.thread ≡ local
  here = get_or-set_same s.locals e.thread local idle d.running.there

  seen : view_in T e.thread ≡ moved_view place g (view_in s e.thread)
  seen = get_or-map (moved_view place g) s.views e.thread no_view

  -- what remains is to be said of the event, made from T
  from_event : (b : Bool) → is_spend E.event ≡ b → MakesEventBy p T e.thread E.event b → after_event_by p T e.thread E.event b ≡ moved_state y g (after_entry p s e) → IsMovedEntry p s e y g
  from_event b q made after = record {
    entry = record {
      silent = silent.0;
      event = subst (λ (u : State). MakesEvent p u e.thread E.event) (sym silent.1) (subst (MakesEventBy p T e.thread E.event) (sym q) made);
    };
    state = ap (λ (u : State). after_event p u e.thread E.event) silent.1 ∙ ap (λ (c : Bool). after_event_by p T e.thread E.event c) q ∙ after;
  }

  spends : Spends p s e → IsMovedEntry p s e y g
  spends q =
      from_event true (spend_moved y g e.event ∙ ap is_spend q.event)
      (record { able = running_then; unfinished = λ f. q.unfinished (ap (λ (x : Stack). next_of x) (sym here) ∙ f) })
      (ap (moved_state y g) (sym q.state))

  makes : Makes p s e → IsMovedEntry p s e y g
  makes q = from_event false (spend_moved y g e.event ∙ q.unspent) done.0 done.1
    where
      a : Access
      a = q.access

      c : Choice
      c = choice_of_event e.event

      c' : Choice
      c' = moved_choice y g (location_of q.access) (choice_of_event e.event)

      o : StepResult
      o = step_result s.memory (view_in s e.thread) e.thread q.access (choice_of_event e.event)

      proper : IsProper s.memory q.access
      proper = proper_in p s.memory q.access reached.na reached.atomic (subst (IsProperNext p) q.asks (next_proper p local (local_proper p s e ok reached d)))

      places : HaveAllPlaces s.memory
      places z h = all_long s.memory (messages s.memory z) (reached.well_formed.well_formed.closed z h)

      closed : IsClosedView s.memory (view_in s e.thread)
      closed = all_at (IsClosedView s.memory) s.views e.thread (omega (arith, d.running.there, reached.views)) reached.well_formed.closed

      step : IsMovedStep s.memory (view_in s e.thread) e.thread q.access (choice_of_event e.event) y g
      step = steps_moved s.memory (view_in s e.thread) e.thread q.access (choice_of_event e.event) y g r (omega (arith, reached.atomic, l)) places
          (record { cur = closed.cur.locations; got = closed.got.locations; rel = closed.rel.locations }) proper q.legal

      asks : next_in T e.thread ≡ next.Access q.access
      asks = ap (λ (x : Stack). next_of x) here ∙ q.asks

      legal : IsLegal T.memory (view_in T e.thread) q.access c'
      legal = subst (λ (w : ThreadView). IsLegal (moved s.memory y g) w q.access c') (sym seen) step.legal

      told : choice_of_event E.event ≡ c'
      told = ap (λ (x : Event). choice_of_event (moved_event y g x)) (sym q.event) ∙ choice_moved s.memory (view_in s e.thread) e.thread q.access (choice_of_event e.event) y g q.legal.admits

      event_same : (step_result (moved s.memory y g) (moved_view place g (view_in s e.thread)) e.thread q.access c').event ≡ E.event
      event_same = step.event ∙ ap (moved_event y g) q.event

      taken : List Stack → List ThreadView → Event → Memory → StepTaken
      taken locals views x memory = record { state = record { locals = locals; views = views; ended = set s.ended e.thread (is_finish x); memory = memory }; done = stepped.Did x }

      views_same : set (map (moved_view place g) s.views) e.thread (moved_view place g o.view) ≡ map (moved_view (view_index o.memory y) g) (set s.views e.thread o.view)
      views_same =
          sym (map-set (moved_view place g) s.views e.thread o.view)
          ∙ ap (λ (n : ℕ). map (moved_view (n + y) g) (set s.views e.thread o.view)) (sym (sym (ap (λ (u : State). length u.memory.na) q.state) ∙ na_kept))

      state_same : moved_state y g (after_entry p s e) ≡ record {
        locals = set s.locals e.thread (local_after_event local e.event);
        views = map (moved_view (view_index o.memory y) g) (set s.views e.thread o.view);
        ended = set s.ended e.thread (is_finish e.event);
        memory = moved o.memory y g;
      }
      state_same = ap (moved_state y g) q.state

      made : after_step p T e.thread c' ≡ record { state = moved_state y g (after_entry p s e); done = stepped.Did E.event }
      made =
          ap (λ (n : Next). step_by p T e.thread c' n) asks
          ∙ ap (λ (x : Stack). let u = step_result (moved s.memory y g) (view_in T e.thread) e.thread q.access c' in taken (set T.locals e.thread (local_after_event x u.event)) (set S.views e.thread u.view) u.event u.memory) here
          ∙ ap (λ (w : ThreadView). let u = step_result (moved s.memory y g) w e.thread q.access c' in taken (set T.locals e.thread (local_after_event local u.event)) (set S.views e.thread u.view) u.event u.memory) seen
          ∙ ap (λ (x : Event). let u = step_result (moved s.memory y g) (moved_view place g (view_in s e.thread)) e.thread q.access c' in taken (set T.locals e.thread (local_after_event local x)) (set S.views e.thread u.view) x u.memory) event_same
          ∙ ap (λ (w : ThreadView). let u = step_result (moved s.memory y g) (moved_view place g (view_in s e.thread)) e.thread q.access c' in taken (set T.locals e.thread (local_after_event local E.event)) (set S.views e.thread w) E.event u.memory) step.view
          ∙ ap (λ (w : Memory). taken (set T.locals e.thread (local_after_event local E.event)) (set S.views e.thread (moved_view place g o.view)) E.event w) step.memory
          ∙ ap (λ (w : List ThreadView). taken (set T.locals e.thread (local_after_event local E.event)) w E.event (moved o.memory y g)) views_same
          ∙ ap (λ (w : List Stack). taken w (map (moved_view (view_index o.memory y) g) (set s.views e.thread o.view)) E.event (moved o.memory y g))
          (set-set s.locals e.thread local (local_after_event local E.event) ∙ ap (set s.locals e.thread) (local_moved y g local e.event))
          ∙ ap (λ (b : Bool). finished b) (finish_moved y g e.event)
          ∙ ap (λ (u : State). done_state u) (sym state_same)
        where
          finished : Bool → StepTaken
          finished b = record {
            state = record {
              locals = set s.locals e.thread (local_after_event local e.event);
              views = map (moved_view (view_index o.memory y) g) (set s.views e.thread o.view);
              ended = set s.ended e.thread b;
              memory = moved o.memory y g;
            };
            done = stepped.Did E.event;
          }

          done_state : State → StepTaken
          done_state u = record { state = u; done = stepped.Did E.event }

      done : MakesEventBy p T e.thread E.event false × (after_event_by p T e.thread E.event false ≡ moved_state y g (after_entry p s e))
      done = access_made p T (moved_state y g (after_entry p s e)) e.thread c' E.event q.access running_then asks legal told made

  pub entry_moved : IsMovedEntry p s e y g
  entry_moved = ⊎_elim spends makes d.cases

-- ---- the initial state

zeros_moved : (i : ℕ) (g : ℕ → ℕ) (n : ℕ) → IsRisingMap g → moved_times i g (replicate n 0) ≡ replicate n 0
zeros_moved i g n r =
    ap (set (replicate n 0) i) (ap g (get_or-zeros n i) ∙ r.first ∙ sym (get_or-zeros n i)) ∙ set-get_or {A = ℕ} (replicate n 0) i 0

zero_view_moved : (i : ℕ) (g : ℕ → ℕ) (n : ℕ) → IsRisingMap g → moved_view i g (zero_view n) ≡ zero_view n
zero_view_moved i g n r = view_same _ _ (zeros_moved i g n r) (zeros_moved i g n r) (zeros_moved i g n r)

map_alike : {A B : Type 0} (f : A → B) (n : ℕ) (a : A) → map f (replicate n a) ≡ replicate n (f a)
map_alike f zero a = refl
map_alike f (suc n) a = ap (λ r. f a ∷ r) (map_alike f n a)

memory_moved : (na atomic : List ℤ) (y : ℕ) (g : ℕ → ℕ) → IsRisingMap g → moved (initial_memory na atomic) y g ≡ initial_memory na atomic
memory_moved na atomic y g r = memory_same _ _ refl (ext_get_or [] (moved start y g).atomic start.atomic (length-moved_memory start y g) each) refl refl
  where
    start : Memory
    start = initial_memory na atomic

    one : ℕ → TheMessage
    one k = first_message (length na + length atomic) (get_or atomic k (pos 0))

    each : (k : ℕ) → k < length (moved start y g).atomic → messages (moved start y g) k ≡ messages start k
    each k h =
        let there : k < length start.atomic = omega (arith, length-moved_memory start y g) in
        let few : k < length atomic = omega (arith, length-map atomic (λ n. first_message (length na + length atomic) n ∷ [])) in
        let only : messages start k ≡ one k ∷ [] = get_or-map_within (λ n. first_message (length na + length atomic) n ∷ []) atomic k (pos 0) [] few in
        messages_moved start y g k there ∙ ap (map (moved_message (view_index start y) y g k)) only
        ∙ ap (λ (n : TheMessage). n ∷ []) (message_same (moved_message (view_index start y) y g k (one k)) (one k) (stamp_rises y g k r).first (stamp_rises y g k r).first refl (zeros_moved (view_index start y) g (length na + length atomic) r))
        ∙ sym only

initial_moved : (p : Program) (y : ℕ) (g : ℕ → ℕ) → IsRisingMap g → moved_state y g (initial_state p) ≡ initial_state p
initial_moved p y g r =
    ap (λ (m : Memory). with_memory m (map (moved_view (view_index (initial_state p).memory y) g) (initial_state p).views)) (memory_moved (declared_values p.na) (declared_values p.atomic) y g r)
    ∙ ap (λ (v : List ThreadView). with_memory (initial_state p).memory v)
    (map_alike (moved_view (view_index (initial_state p).memory y) g) (length p.threads) (zero_view (length p.na + length p.atomic))
    ∙ ap (λ (v : ThreadView). replicate (length p.threads) v) (zero_view_moved (view_index (initial_state p).memory y) g (length p.na + length p.atomic) r))
  where
    with_memory : Memory → List ThreadView → State
    with_memory m v = record { locals = (initial_state p).locals; views = v; ended = (initial_state p).ended; memory = m }

-- ---- runs

run_moved : (p : Program) (entries : List Entry) (s : State) (y : ℕ) (g : ℕ → ℕ) → IsProperProgram p → IsRisingMap g → y < length p.atomic → IsReached p s → IsRunFrom p s entries
    → IsRunFrom p (moved_state y g s) (map (moved_entry y g) entries) × (state_after p (moved_state y g s) (map (moved_entry y g) entries) ≡ moved_state y g (state_after p s entries))
run_moved p [] s y g ok r l reached h = (tt, refl)
run_moved p (e ∷ entries) s y g ok r l reached h =
    let d = entry_done p s e h.0 in
    let next_reached = run_reached p s (e ∷ []) ok reached (h.0, tt) in
    let m = entry_moved p s e y g ok reached r l d (next_reached.na ∙ sym reached.na) in
    let rest = run_moved p entries (after_entry p s e) y g ok r l next_reached h.1 in (
      (m.entry, subst (λ (t : State). IsRunFrom p t (map (moved_entry y g) entries)) (sym m.state) rest.0),
      ap (λ (t : State). state_after p t (map (moved_entry y g) entries)) m.state ∙ rest.1,
    )

pub runs_moved : RunsAreMoved
runs_moved p entries s y g ok r l run =
    let m = run_moved p entries (initial_state p) y g ok r l (initial_reached p ok) run.run in
    record {
      run = subst (λ (t : State). IsRunFrom p t (map (moved_entry y g) entries)) (initial_moved p y g r) m.0;
      state = ap (λ (t : State). state_after p t (map (moved_entry y g) entries)) (sym (initial_moved p y g r)) ∙ m.1 ∙ ap (moved_state y g) run.state;
    }
