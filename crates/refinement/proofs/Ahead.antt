-- A run that is ahead of what is recorded.
use Rattle.std.proofs.Common.{◌≡◌, ℕ, zero, suc, ◌+◌, ◌<◌, Bool, true, false, List, length, get_or, set, refl, sym, ap, ◌∙◌, subst, arith, ⊎_elim}
use Rattle.std.proofs.lemmas.Bool.{cases_eq}
use Rattle.std.proofs.lemmas.List.{length-set, get_or-set_same, get_or-set_other}
use Rattle.values_undef.specs.Access.{choice_of_event}
use Rattle.values_undef.specs.Journal.{is_finish}
use Rattle.values_undef.specs.declared.access.Choice.{Choice}
use Rattle.values_undef.specs.declared.access.Choice.TheVariants.{Plain}
use Rattle.values_undef.specs.declared.access.Event.{Event}
use Rattle.il_syntax.specs.declared.program.Program.{Program}
use Rattle.views.specs.ThreadView.{ThreadView, no_view}
use Rattle.message_memory.specs.Memory.{Memory}
use Rattle.message_memory.specs.Step.{step_result}
use Rattle.thread_core.specs.declared.next.Next.{Next}
use Rattle.thread_core.specs.declared.next.Next.TheVariants as next
use Rattle.thread_core.specs.Frames.{Stack, next_of, advanced}
use Rattle.view_machine.specs.declared.stepped.Stepped.TheVariants as stepped
use Rattle.view_machine.specs.State.{State, local_in, with_local, view_in, next_in, idle, IsRunning, Allows, local_after_event, step_by, after_step, after_spend}
use Rattle.view_machine.specs.Runs.{is_spend, after_silent, AreSilent, MakesAccess, MakesEventBy, MakesEvent, after_event_by, after_event, IsEntry, after_entry}
use Rattle.view_machine.specs.Laws.{HasSilent, local_after_silent}
use Rattle.thread_core.proofs.Callers.{silent_more, after_more}
use Rattle.view_machine.proofs.Callers.{silent_steps_local}
use Rattle.refinement.specs.Books.{entry_of}
use Rattle.refinement.specs.Ahead.{IsAhead, AheadBegins, SilentStepsRunAhead, EventsAreEntries}

pub ahead_begins : AheadBegins
ahead_begins p carry w zeros = record {
  views = refl;
  ended = refl;
  memory = refl;
  threads = refl;
  silent = λ i l. subst (λ (n : ℕ). HasSilent p n (local_in w i)) (sym (zeros i)) tt;
  local = λ i l. sym (ap (λ (n : ℕ). local_after_silent p n (local_in w i)) (zeros i));
}

silent_state : (p : Program) (u : State) (i : ℕ) → next_in u i ≡ next.Silent → (after_step p u i Plain).state ≡ with_local u i (advanced p (local_in u i))
silent_state p u i e = ap (λ (n : Next). (step_by p u i Plain n).state) e

pub silent_steps_run_ahead : SilentStepsRunAhead
silent_steps_run_ahead p carry w u i in_carry h step quiet =
    subst (IsAhead p (set carry i (get_or carry i 0 + 1)) w) (sym (silent_state p u i quiet)) (record {
      views = h.views;
      ended = h.ended;
      memory = h.memory;
      threads = length-set u.locals i (advanced p (local_in u i)) ∙ h.threads;
      silent = λ j l.
          ⊎_elim
          (λ (e : j ≡ i). subst (λ (k : ℕ). HasSilent p (get_or (set carry i (get_or carry i 0 + 1)) k 0) (local_in w k)) (sym e) (subst (λ (n : ℕ). HasSilent p n (local_in w i)) (sym more) here))
          (λ (e : j ≡ i → ⊥). subst (λ (n : ℕ). HasSilent p n (local_in w j)) (sym (get_or-set_other carry i j (get_or carry i 0 + 1) 0 e)) (h.silent j l))
          (cases_eq j i);
      local = λ j l.
          ⊎_elim
          (λ (e : j ≡ i). subst (λ (k : ℕ). local_in (with_local u i (advanced p (local_in u i))) k ≡ local_after_silent p (get_or (set carry i (get_or carry i 0 + 1)) k 0) (local_in w k)) (sym e) there)
          (λ (e : j ≡ i → ⊥).
          get_or-set_other u.locals i j (advanced p (local_in u i)) idle e ∙ h.local j l
          ∙ ap (λ (n : ℕ). local_after_silent p n (local_in w j)) (sym (get_or-set_other carry i j (get_or carry i 0 + 1) 0 e)))
          (cases_eq j i);
    })
  where
    in_w : i < length w.locals
    in_w = omega (arith, step.able.there, h.threads)

    more : get_or (set carry i (get_or carry i 0 + 1)) i 0 ≡ suc (get_or carry i 0)
    more = get_or-set_same carry i (get_or carry i 0 + 1) 0 in_carry ∙ omega arith

    here : HasSilent p (suc (get_or carry i 0)) (local_in w i)
    here = silent_more p (get_or carry i 0) (local_in w i) (h.silent i in_w) (ap next_of (sym (h.local i in_w)) ∙ quiet)

    there : local_in (with_local u i (advanced p (local_in u i))) i ≡ local_after_silent p (get_or (set carry i (get_or carry i 0 + 1)) i 0) (local_in w i)
    there =
        get_or-set_same u.locals i (advanced p (local_in u i)) idle step.able.there ∙ ap (advanced p) (h.local i in_w)
        ∙ sym (after_more p (get_or carry i 0) (local_in w i)) ∙ ap (λ (n : ℕ). local_after_silent p n (local_in w i)) (sym more)

-- ---- an event

-- what a step of thread i sees of a state
pub record AreAlike (i : ℕ) (u v : State) : Type 0 where
  pub threads : length v.locals ≡ length u.locals
  pub local : local_in v i ≡ local_in u i
  pub views : v.views ≡ u.views
  pub ended : v.ended ≡ u.ended
  pub memory : v.memory ≡ u.memory

running_alike : (i : ℕ) (u v : State) → AreAlike i u v → IsRunning u i → IsRunning v i
running_alike i u v a r = record {
  there = omega (arith, r.there, a.threads);
  going = ap (λ (x : List Bool). get_or x i true) a.ended ∙ r.going;
  running = ap (λ (x : Memory). x.failed) a.memory ∙ r.running;
}

allows_alike : (m m' : Memory) (v v' : ThreadView) (c : Choice) (n n' : Next) → m' ≡ m → v' ≡ v → n' ≡ n → Allows m v c n → Allows m' v' c n'
allows_alike m m' v v' c n n' e f g h =
    subst (λ (x : Memory). Allows x v' c n') (sym e) (subst (λ (x : ThreadView). Allows m x c n') (sym f) (subst (Allows m v c) (sym g) h))

done_alike : (p : Program) (i : ℕ) (u v : State) (c : Choice) (n : Next) → AreAlike i u v → (step_by p v i c n).done ≡ (step_by p u i c n).done
done_alike p i u v c next.Silent a = refl
done_alike p i u v c (next.Access b) a =
    ap (λ (m : Memory). stepped.Did (step_result m (view_in v i) i b c).event) a.memory ∙ ap (λ (x : List ThreadView). stepped.Did (step_result u.memory (get_or x i no_view) i b c).event) a.views

access_alike : (p : Program) (i : ℕ) (u v : State) (e : Event) → AreAlike i u v → MakesAccess p u i e → MakesAccess p v i e
access_alike p i u v e a m = record {
  step = record {
    able = running_alike i u v a m.step.able;
    allowed = allows_alike u.memory v.memory (view_in u i) (view_in v i) (choice_of_event e) (next_in u i) (next_in v i) a.memory (ap (λ (x : List ThreadView). get_or x i no_view) a.views) (ap next_of a.local) m.step.allowed;
  };
  event = ap (λ (n : Next). (step_by p v i (choice_of_event e) n).done) (ap next_of a.local) ∙ done_alike p i u v (choice_of_event e) (next_in u i) a ∙ m.event;
}

event_alike : (p : Program) (i : ℕ) (u v : State) (e : Event) (b : Bool) → AreAlike i u v → MakesEventBy p u i e b → MakesEventBy p v i e b
event_alike p i u v e true a m = record { able = running_alike i u v a m.able; unfinished = λ f. m.unfinished (ap next_of (sym a.local) ∙ f) }
event_alike p i u v e false a m = access_alike p i u v e a m

-- the two states after it
module _ (p : Program) (carry : List ℕ) (w u : State) (i : ℕ) (in_carry : i < length carry) (h : IsAhead p carry w u) where
  -- other locals stay, and the two of thread i are one
  ahead_of : (v v' u' : State) → ((j : ℕ) → (j ≡ i → ⊥) → local_in v' j ≡ local_in w j) → ((j : ℕ) → (j ≡ i → ⊥) → local_in u' j ≡ local_in u j) → local_in u' i ≡ local_in v' i → length v'.locals ≡ length w.locals → length u'.locals ≡ length w.locals
      → u'.views ≡ v'.views → u'.ended ≡ v'.ended → u'.memory ≡ v'.memory → IsAhead p (set carry i 0) v' u'
  ahead_of v v' u' others_w others_u same in_v in_u views ended memory = record {
    views = views;
    ended = ended;
    memory = memory;
    threads = in_u ∙ sym in_v;
    silent = λ j l.
        ⊎_elim
        (λ (e : j ≡ i). subst (λ (k : ℕ). HasSilent p (get_or (set carry i 0) k 0) (local_in v' k)) (sym e) (subst (λ (n : ℕ). HasSilent p n (local_in v' i)) (sym none) tt))
        (λ (e : j ≡ i → ⊥).
        subst (λ (n : ℕ). HasSilent p n (local_in v' j)) (sym (get_or-set_other carry i j 0 0 e)) (subst (HasSilent p (get_or carry j 0)) (sym (others_w j e)) (h.silent j (omega (arith, l, in_v)))))
        (cases_eq j i);
    local = λ j l.
        ⊎_elim
        (λ (e : j ≡ i). subst (λ (k : ℕ). local_in u' k ≡ local_after_silent p (get_or (set carry i 0) k 0) (local_in v' k)) (sym e) (same ∙ ap (λ (n : ℕ). local_after_silent p n (local_in v' i)) (sym none)))
        (λ (e : j ≡ i → ⊥).
        others_u j e ∙ h.local j (omega (arith, l, in_v)) ∙ ap (local_after_silent p (get_or carry j 0)) (sym (others_w j e)) ∙ ap (λ (n : ℕ). local_after_silent p n (local_in v' j)) (sym (get_or-set_other carry i j 0 0 e)))
        (cases_eq j i);
  }
    where
      none : get_or (set carry i 0) i 0 ≡ 0
      none = get_or-set_same carry i 0 0 in_carry

  module _ (able : IsRunning u i) where
    in_w : i < length w.locals
    in_w = omega (arith, able.there, h.threads)

    -- the recorded state after the silent steps that thread i carries
    abbrev v : State
    v = with_local w i (local_after_silent p (get_or carry i 0) (local_in w i))

    abbrev running_w : IsRunning w i
    running_w = record {
      there = omega (arith, able.there, h.threads);
      going = ap (λ (x : List Bool). get_or x i true) (sym h.ended) ∙ able.going;
      running = ap (λ (x : Memory). x.failed) (sym h.memory) ∙ able.running;
    }

    caught : AreSilent p i (get_or carry i 0) w × (after_silent p i (get_or carry i 0) w ≡ v)
    caught = silent_steps_local p i (get_or carry i 0) w running_w (h.silent i in_w)

    local_v : local_in v i ≡ local_in u i
    local_v = get_or-set_same w.locals i (local_after_silent p (get_or carry i 0) (local_in w i)) idle in_w ∙ sym (h.local i in_w)

    other_v : (j : ℕ) → (j ≡ i → ⊥) → local_in v j ≡ local_in w j
    other_v j e = get_or-set_other w.locals i j (local_after_silent p (get_or carry i 0) (local_in w i)) idle e

    long_v : length v.locals ≡ length w.locals
    long_v = length-set w.locals i (local_after_silent p (get_or carry i 0) (local_in w i))

    alike : AreAlike i u v
    alike = record { threads = long_v ∙ sym h.threads; local = local_v; views = sym h.views; ended = sym h.ended; memory = sym h.memory }

    -- after an access
    ahead_access : (c : Choice) (n : Next) → IsAhead p (set carry i 0) (step_by p v i c n).state (step_by p u i c n).state
    ahead_access c next.Silent =
        ahead_of v (step_by p v i c next.Silent).state (step_by p u i c next.Silent).state
        (λ j e. get_or-set_other v.locals i j (advanced p (local_in v i)) idle e ∙ other_v j e)
        (λ j e. get_or-set_other u.locals i j (advanced p (local_in u i)) idle e)
        (get_or-set_same u.locals i (advanced p (local_in u i)) idle able.there ∙ ap (advanced p) (sym local_v) ∙ sym (get_or-set_same v.locals i (advanced p (local_in v i)) idle (omega (arith, in_w, long_v))))
        (length-set v.locals i (advanced p (local_in v i)) ∙ long_v) (length-set u.locals i (advanced p (local_in u i)) ∙ h.threads) h.views h.ended h.memory
    ahead_access c (next.Access b) =
        ahead_of v (step_by p v i c (next.Access b)).state (step_by p u i c (next.Access b)).state
        (λ j e. get_or-set_other v.locals i j (local_after_event (local_in v i) (step_result v.memory (view_in v i) i b c).event) idle e ∙ other_v j e)
        (λ j e. get_or-set_other u.locals i j (local_after_event (local_in u i) (step_result u.memory (view_in u i) i b c).event) idle e)
        (get_or-set_same u.locals i (local_after_event (local_in u i) (step_result u.memory (view_in u i) i b c).event) idle able.there
        ∙ ap (λ (l : Stack). local_after_event l (step_result u.memory (view_in u i) i b c).event) (sym local_v)
        ∙ ap (λ (m : Memory). local_after_event (local_in v i) (step_result m (view_in u i) i b c).event) h.memory
        ∙ ap (λ (x : List ThreadView). local_after_event (local_in v i) (step_result w.memory (get_or x i no_view) i b c).event) h.views
        ∙ sym (get_or-set_same v.locals i (local_after_event (local_in v i) (step_result v.memory (view_in v i) i b c).event) idle (omega (arith, in_w, long_v))))
        (length-set v.locals i (local_after_event (local_in v i) (step_result v.memory (view_in v i) i b c).event) ∙ long_v)
        (length-set u.locals i (local_after_event (local_in u i) (step_result u.memory (view_in u i) i b c).event) ∙ h.threads)
        (ap (λ (m : Memory). set u.views i (step_result m (view_in u i) i b c).view) h.memory ∙ ap (λ (x : List ThreadView). set x i (step_result w.memory (get_or x i no_view) i b c).view) h.views)
        (ap (λ (m : Memory). set u.ended i (is_finish (step_result m (view_in u i) i b c).event)) h.memory ∙ ap (λ (x : List ThreadView). set u.ended i (is_finish (step_result w.memory (get_or x i no_view) i b c).event)) h.views
        ∙ ap (λ (x : List Bool). set x i (is_finish (step_result w.memory (view_in w i) i b c).event)) h.ended)
        (ap (λ (m : Memory). (step_result m (view_in u i) i b c).memory) h.memory ∙ ap (λ (x : List ThreadView). (step_result w.memory (get_or x i no_view) i b c).memory) h.views)

    ahead_event : (e : Event) (b : Bool) → IsAhead p (set carry i 0) (after_event_by p v i e b) (after_event_by p u i e b)
    ahead_event e true =
        ahead_of v (after_spend v i) (after_spend u i) other_v (λ j f. refl) (sym local_v) long_v h.threads h.views (ap (λ (x : List Bool). set x i true) h.ended) h.memory
    ahead_event e false =
        subst (λ (n : Next). IsAhead p (set carry i 0) (step_by p v i (choice_of_event e) n).state (after_step p u i (choice_of_event e)).state) (sym (ap next_of local_v)) (ahead_access (choice_of_event e) (next_in u i))

    pub entered : (e : Event) → MakesEvent p u i e → IsEntry p w (entry_of i (get_or carry i 0) e) × IsAhead p (set carry i 0) (after_entry p w (entry_of i (get_or carry i 0) e)) (after_event p u i e)
    entered e m = (
      record { silent = caught.0; event = subst (λ (x : State). MakesEvent p x i e) (sym caught.1) (event_alike p i u v e (is_spend e) alike m) },
      subst (λ (x : State). IsAhead p (set carry i 0) (after_event p x i e) (after_event p u i e)) (sym caught.1) (ahead_event e (is_spend e)),
    )

event_running : (p : Program) (u : State) (i : ℕ) (e : Event) (b : Bool) → MakesEventBy p u i e b → IsRunning u i
event_running p u i e true m = m.able
event_running p u i e false m = m.step.able

pub events_are_entries : EventsAreEntries
events_are_entries p carry w u i e l h m = entered p carry w u i l h (event_running p u i e (is_spend e) m) e m
