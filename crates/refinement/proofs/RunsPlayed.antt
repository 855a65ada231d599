-- Where each silent step and each event is played and a relation of states is kept, each run is playable, whatever the
-- relation is.
use Rattle.std.proofs.Common.{◌≡◌, ℕ, zero, suc, Bool, true, false, List, [], ◌∷◌, inl, inr, ⊎_elim}
use Rattle.values_undef.specs.Access.{choice_of_event}
use Rattle.values_undef.specs.declared.access.Choice.TheVariants.{Plain}
use Rattle.values_undef.specs.declared.access.Event.{Event}
use Rattle.values_undef.specs.declared.access.Event.TheVariants as event
use Rattle.values_undef.specs.declared.journal.Entry.{Entry}
use Rattle.il_syntax.specs.declared.program.Program.{Program}
use Rattle.thread_core.specs.declared.next.Next.TheVariants as next
use Rattle.view_machine.specs.declared.stepped.Stepped.{Stepped}
use Rattle.view_machine.specs.State.{State, StepTaken, next_in, IsStep, after_step, after_spend}
use Rattle.view_machine.specs.Runs.{after_silent, AreSilent, MakesEvent, after_event, after_entry, IsRunFrom}
use Rattle.refinement.specs.Playing.{HasDone, IsQuiet, LeadsOn, PlaysStep, PlaysSteps, PlaysOwn, PlaysFailing, PlaysAccess, PlaysLoad, PlaysEvent, IsPlayable, at_load}

leads_map : (kind : Stepped → Type 0) (taken : StepTaken) (A B : State → Type 0) → ((u : State) → A u → B u) → LeadsOn kind taken A → LeadsOn kind taken B
leads_map kind taken A B f h = ⊎_elim inl (λ (p : kind taken.done × A taken.state). inr (p.0, f taken.state p.1)) h

step_map : (p : Program) (i : ℕ) (s : State) (A B : State → Type 0) → ((u : State) → A u → B u) → PlaysStep p i s A → PlaysStep p i s B
step_map p i s A B f h = record { step = h.step; leads = leads_map IsQuiet (after_step p s i Plain) A B f h.leads }

access_map : (p : Program) (i : ℕ) (e : Event) (s : State) (A B : State → Type 0) → ((u : State) → A u → B u) → PlaysAccess p i e s A → PlaysAccess p i e s B
access_map p i e s A B f h =
    ⊎_elim (λ (o : PlaysOwn p i e s A). inl (record { step = o.step; leads = leads_map (HasDone e) (after_step p s i (choice_of_event e)) A B f o.leads })) (λ (o : PlaysFailing p i e s). inr o) h

load_map : (p : Program) (news : Bool) (i : ℕ) (e : Event) (s : State) (A B : State → Type 0) (b : Bool) → ((u : State) → A u → B u) → PlaysLoad p news i e s A b → PlaysLoad p news i e s B b
load_map p news i e s A B true f h = access_map p i e s A B f h
load_map p news i e s A B false f h = (h.0, f s h.1)

event_map : (p : Program) (news : Bool) (i : ℕ) (e : Event) (s : State) (A B : State → Type 0) → ((u : State) → A u → B u) → PlaysEvent p news i e s A → PlaysEvent p news i e s B
event_map p news i (event.NaRead x v) s A B f h = load_map p news i (event.NaRead x v) s A B (at_load s i) f h
event_map p news i (event.NaWrite x v n) s A B f h = access_map p i (event.NaWrite x v n) s A B f h
event_map p news i (event.Read y o v to) s A B f h = access_map p i (event.Read y o v to) s A B f h
event_map p news i (event.Write y o v from to) s A B f h = access_map p i (event.Write y o v from to) s A B f h
event_map p news i (event.Update y o old new read to) s A B f h = access_map p i (event.Update y o old new read to) s A B f h
event_map p news i (event.Miss y o old read) s A B f h = access_map p i (event.Miss y o old read) s A B f h
event_map p news i (event.Fence order) s A B f h = access_map p i (event.Fence order) s A B f h
event_map p news i (event.Print v) s A B f h = access_map p i (event.Print v) s A B f h
event_map p news i (event.Fail c) s A B f h = access_map p i (event.Fail c) s A B f h
event_map p news i (event.FailCompare y read) s A B f h = access_map p i (event.FailCompare y read) s A B f h
event_map p news i event.Finish s A B f h = record { step = h.step; done = h.done; leads = f (after_step p s i Plain).state h.leads }
event_map p news i event.Spend s A B f h = (h.0, f (after_spend s i) h.1)

module _ (source target : Program) (news : Bool) (R : State → State → Type 0)
    (silent : (t s : State) (i : ℕ) → R t s → IsStep t i Plain → next_in t i ≡ next.Silent → PlaysStep source i s (R (after_step target t i Plain).state))
    (events : (t s : State) (i : ℕ) (e : Event) → R t s → MakesEvent target t i e → PlaysEvent source news i e s (R (after_event target t i e))) where
  steps_played : (i n : ℕ) (t s : State) (more : State → Type 0) → AreSilent target i n t → R t s → ((u : State) → R (after_silent target i n t) u → more u) → PlaysSteps source i n s more
  steps_played i zero t s more h r f = f s r
  steps_played i (suc n) t s more h r f =
      step_map source i s (R (after_step target t i Plain).state) (λ u. PlaysSteps source i n u more)
      (λ u q. steps_played i n (after_step target t i Plain).state u more h.2 q f) (silent t s i r h.0 h.1)

  pub run_played : (t s : State) (entries : List Entry) → IsRunFrom target t entries → R t s → IsPlayable source news s entries
  run_played t s [] h r = tt
  run_played t s (entry ∷ rest) h r =
      steps_played entry.thread entry.silent t s _ h.0.silent r
      (λ u q.
      event_map source news entry.thread entry.event u (R (after_event target (after_silent target entry.thread entry.silent t) entry.thread entry.event)) (λ w. IsPlayable source news w rest)
      (λ w o. run_played (after_entry target t entry) w rest h.1 o)
      (events (after_silent target entry.thread entry.silent t) u entry.thread entry.event q h.0.event))
