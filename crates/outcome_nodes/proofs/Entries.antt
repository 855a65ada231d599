-- What an entry of a run does, told by the thread's local, the memory and the views alone.
use Rattle.std.proofs.Common.{◌≡◌, ◌⊎◌, inl, inr, ⊎_elim, ℕ, zero, suc, Bool, true, false, List, set, refl, sym, ap, ◌∙◌, subst}
use Rattle.std.proofs.lemmas.Bool.{cases_Bool, false≢true}
use Rattle.std.proofs.lemmas.List.{get_or-set_same, set-set}
use Rattle.values_undef.specs.Access.{choice_of_event, is_spend}
use Rattle.values_undef.specs.Journal.{is_finish}
use Rattle.values_undef.specs.declared.access.Access.{Access}
use Rattle.values_undef.specs.declared.access.Access.TheVariants as access
use Rattle.values_undef.specs.declared.access.Choice.{Choice}
use Rattle.values_undef.specs.declared.access.Choice.TheVariants.{Plain}
use Rattle.values_undef.specs.declared.access.Event.{Event}
use Rattle.values_undef.specs.declared.access.Event.TheVariants as event
use Rattle.values_undef.specs.declared.journal.Entry.{Entry}
use Rattle.il_syntax.specs.declared.program.Program.{Program}
use Rattle.message_memory.specs.Step.{IsLegal, step_result}
use Rattle.thread_core.specs.declared.next.Next.{Next}
use Rattle.thread_core.specs.declared.next.Next.TheVariants as next
use Rattle.thread_core.specs.Frames.{Stack, next_of, advanced}
use Rattle.thread_core.specs.Alone.{HasSilent, local_after_silent, local_after_event}
use Rattle.view_machine.specs.declared.stepped.Stepped.{Stepped}
use Rattle.view_machine.specs.declared.stepped.Stepped.TheVariants as stepped
use Rattle.view_machine.specs.State.{State, local_in, with_local, view_in, next_in, idle, IsRunning, step_by, after_step, after_spend}
use Rattle.view_machine.specs.Runs.{after_silent, AreSilent, MakesEventBy, after_event_by, after_event, IsEntry, after_entry}
use Rattle.view_machine.proofs.Callers.{silent_steps_local, spend_is, step_legal}

-- ---- silent steps

pub silent_has : (p : Program) (i k : ℕ) (s : State) → AreSilent p i k s → HasSilent p k (local_in s i)
silent_has p i zero s h = tt
silent_has p i (suc k) s h =
    let l = local_in s i in
    let t = with_local s i (advanced p l) in
    let to : (after_step p s i Plain).state ≡ t = ap (λ (n : Next). (step_by p s i Plain n).state) h.1 in
    let same : local_in t i ≡ advanced p l = get_or-set_same s.locals i (advanced p l) idle h.0.able.there in
    (h.1, subst (HasSilent p k) same (silent_has p i k t (subst (AreSilent p i k) to h.2)))

running_event : (p : Program) (s : State) (i : ℕ) (e : Event) (b : Bool) → MakesEventBy p s i e b → IsRunning s i
running_event p s i e true m = m.able
running_event p s i e false m = m.step.able

running_entry : (p : Program) (s : State) (i k : ℕ) (e : Event) → AreSilent p i k s → MakesEventBy p (after_silent p i k s) i e (is_spend e) → IsRunning s i
running_entry p s i zero e h m = running_event p s i e (is_spend e) m
running_entry p s i (suc k) e h m = h.0.able

-- ---- the event

-- the thread's budget is used up
pub record Spends (p : Program) (s : State) (e : Entry) : Type 0 where
  pub event : e.event ≡ event.Spend
  pub state : after_entry p s e ≡ after_spend (with_local s e.thread (local_after_silent p e.silent (local_in s e.thread))) e.thread
  pub unfinished : next_of (local_after_silent p e.silent (local_in s e.thread)) ≡ next.Access access.Finish → ⊥

-- it makes an access
pub record Makes (p : Program) (s : State) (e : Entry) : Type 0 where
  pub access : Access
  pub asks : next_of (local_after_silent p e.silent (local_in s e.thread)) ≡ next.Access access
  pub legal : IsLegal s.memory (view_in s e.thread) access (choice_of_event e.event)
  pub event : (step_result s.memory (view_in s e.thread) e.thread access (choice_of_event e.event)).event ≡ e.event
  pub unspent : is_spend e.event ≡ false
  pub state : after_entry p s e ≡ record {
    locals = set s.locals e.thread (local_after_event (local_after_silent p e.silent (local_in s e.thread)) e.event);
    views = set s.views e.thread (step_result s.memory (view_in s e.thread) e.thread access (choice_of_event e.event)).view;
    ended = set s.ended e.thread (is_finish e.event);
    memory = (step_result s.memory (view_in s e.thread) e.thread access (choice_of_event e.event)).memory;
  }

pub record EntryDone (p : Program) (s : State) (e : Entry) : Type 0 where
  pub running : IsRunning s e.thread
  pub silent : HasSilent p e.silent (local_in s e.thread)
  pub cases : Spends p s e ⊎ Makes p s e

abbrev did : Stepped → Bool
did stepped.Silent = false
did (stepped.Did e) = true

abbrev event_done : Stepped → Event
event_done stepped.Silent = event.Spend
event_done (stepped.Did e) = e

pub entry_done : (p : Program) (s : State) (e : Entry) → IsEntry p s e → EntryDone p s e
entry_done p s e h = record {
  running = running;
  silent = silent;
  cases = ⊎_elim (λ (q : is_spend e.event ≡ true). inl (spends q)) (λ (q : is_spend e.event ≡ false). inr (makes q)) (cases_Bool (is_spend e.event));
}
  where
    i : ℕ
    i = e.thread

    l : Stack
    l = local_after_silent p e.silent (local_in s e.thread)

    t : State
    t = with_local s e.thread l

    running : IsRunning s e.thread
    running = running_entry p s e.thread e.silent e.event h.silent h.event

    silent : HasSilent p e.silent (local_in s e.thread)
    silent = silent_has p e.thread e.silent s h.silent

    to : after_silent p e.thread e.silent s ≡ t
    to = (silent_steps_local p e.thread e.silent s running silent).1

    here : local_in t e.thread ≡ l
    here = get_or-set_same s.locals e.thread l idle running.there

    after : (b : Bool) → is_spend e.event ≡ b → after_entry p s e ≡ after_event_by p t e.thread e.event b
    after b q = ap (λ (u : State). after_event p u e.thread e.event) to ∙ ap (λ (c : Bool). after_event_by p t e.thread e.event c) q

    made : (b : Bool) → is_spend e.event ≡ b → MakesEventBy p t e.thread e.event b
    made b q = subst (MakesEventBy p t e.thread e.event) q (subst (λ (u : State). MakesEventBy p u e.thread e.event (is_spend e.event)) to h.event)

    spends : is_spend e.event ≡ true → Spends p s e
    spends q = record {
      event = spend_is e.event q;
      state = after true q;
      unfinished = λ f. (made true q).unfinished (ap (λ (x : Stack). next_of x) here ∙ f);
    }

    made_state : Access → Choice → List Stack → Bool → State
    made_state a c locals b =
        let o = step_result s.memory (view_in s e.thread) e.thread a c in
        record { locals = locals; views = set s.views e.thread o.view; ended = set s.ended e.thread b; memory = o.memory }

    makes : is_spend e.event ≡ false → Makes p s e
    makes q = choose (next_in t e.thread) refl
      where
        m : MakesEventBy p t e.thread e.event false
        m = made false q

        choose : (n : Next) → next_in t e.thread ≡ n → Makes p s e
        choose next.Silent f = absurd (false≢true (sym (ap (λ (n : Next). did (step_by p t e.thread (choice_of_event e.event) n).done) f) ∙ ap did m.event))
        choose (next.Access a) f =
            let c = choice_of_event e.event in
            let o = step_result s.memory (view_in s e.thread) e.thread a c in
            let is : o.event ≡ e.event = sym (ap (λ (n : Next). event_done (step_by p t e.thread c n).done) f) ∙ ap event_done m.event in
            record {
              access = a;
              asks = sym (ap (λ (x : Stack). next_of x) here) ∙ f;
              legal = step_legal t e.thread c a f m.step;
              event = is;
              unspent = q;
              state =
                  after false q ∙ ap (λ (n : Next). (step_by p t e.thread c n).state) f
                  ∙ ap (λ (x : Stack). made_state a c (set t.locals e.thread (local_after_event x o.event)) (is_finish o.event)) here
                  ∙ ap (λ (x : Event). made_state a c (set t.locals e.thread (local_after_event l x)) (is_finish x)) is
                  ∙ ap (λ (x : List Stack). made_state a c x (is_finish e.event)) (set-set s.locals e.thread l (local_after_event l e.event));
            }
