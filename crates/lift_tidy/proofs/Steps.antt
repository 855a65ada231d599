-- Each step of the target is answered by the source.
use Rattle.std.proofs.Common.{◌≡◌, ℕ, ◌+◌, ◌<◌, Bool, true, false, List, [], ◌∷◌, length, get_or, set, Option, Some, None, refl, sym, ap, ◌∙◌, subst, arith, inl, inr, ⊎_elim}
use Rattle.std.specs.Option.{option_map_or}
use Rattle.std.proofs.lemmas.Bool.{cases_Bool, cases_eq, false≢true, true≢false, cond_both}
use Rattle.std.proofs.lemmas.Option.{none-some}
use Rattle.std.proofs.lemmas.List.{length-set, set-get_or, get_or-set_same, get_or-set_other}
use Rattle.values_undef.specs.Access.{choice_of_event, is_failure, is_read, ends_thread}
use Rattle.values_undef.specs.Journal.{is_finish}
use Rattle.values_undef.specs.Matching.{IsEventBelow}
use Rattle.values_undef.proofs.Callers.{event_refl}
use Rattle.values_undef.specs.declared.value.Val.{Val}
use Rattle.values_undef.specs.declared.access.Access.{Access}
use Rattle.values_undef.specs.declared.access.Access.TheVariants as access
use Rattle.values_undef.specs.declared.access.Choice.{Choice}
use Rattle.values_undef.specs.declared.access.Choice.TheVariants.{Plain, Message, Place, Take}
use Rattle.values_undef.specs.declared.access.Event.{Event}
use Rattle.values_undef.specs.declared.access.Event.TheVariants as event
use Rattle.il_syntax.specs.declared.program.Program.{Program}
use Rattle.il_syntax.specs.Statements.{Head}
use Rattle.il_paths.specs.Code.{first_head}
use Rattle.views.specs.ThreadView.{ThreadView, no_view}
use Rattle.message_memory.specs.Memory.{Memory}
use Rattle.message_memory.specs.Step.{AdmitsChoice, IsLegal, StepResult, step_result, read_at, meets_undef, read_value}
use Rattle.thread_core.specs.declared.next.Next.{Next}
use Rattle.thread_core.specs.declared.next.Next.TheVariants as next
use Rattle.thread_core.specs.Asking.{asked, loaded_by, loaded_location, ends_by}
use Rattle.thread_core.specs.Steps.{IsProperStack}
use Rattle.thread_core.specs.Frames.{Frame, Stack, next_after, ended, advanced, resumed, given_by}
use Rattle.thread_core.proofs.Callers.{asks_by_head, asked_same, goes_past}
use Rattle.view_machine.specs.declared.stepped.Stepped.{Stepped}
use Rattle.view_machine.specs.declared.stepped.Stepped.TheVariants as stepped
use Rattle.view_machine.specs.State.{State, local_in, view_in, next_in, idle, IsRunning, IsStep, Allows, local_after_event, step_by, after_step, IsSpendable, after_spend}
use Rattle.view_machine.specs.Runs.{is_spend, MakesEventBy, after_event_by}
use Rattle.view_machine.specs.Laws.{IsReached}
use Rattle.view_machine.proofs.Callers.{all_get, step_reached, event_reached, spend_is}
use Rattle.refinement.specs.Playing.{HasFailed, IsQuiet, HasDone, LeadsOn, PlaysStep, PlaysAccess, PlaysEvent, is_plain_load}
use Rattle.refinement.proofs.Callers.{plays_access, load_head, event_read, event_goes}
use Rattle.lift_tidy.specs.Stacks.{StacksTidied, GivesWhatIsRead, TidiedGoOn, both_silent, both_finish, both_ask, both_fail, source_reads, source_fails}
use Rattle.lift_tidy.specs.States.{AreTidied, AreStatesTidied}
use Rattle.lift_tidy.specs.Laws.{TidiedSilentStepsArePlayed, TidiedEventsArePlayed}
use Rattle.lift_tidy.proofs.Threads.{threads_go_on}
use Rattle.lift_tidy.proofs.Programs.{function_pairs}

-- ---- what comes next, as a word

abbrev is_silent : Next → Bool
is_silent next.Silent = true
is_silent (next.Access a) = false

asks_not_silent : (a : Access) → next.Access a ≡ next.Silent → ⊥
asks_not_silent a e = false≢true (ap is_silent e)

abbrev is_end : Access → Bool
is_end (access.NaRead x) = false
is_end (access.NaWrite x v) = false
is_end (access.Read y order) = false
is_end (access.Write y order v) = false
is_end (access.Update y order kind) = false
is_end (access.Fence order) = false
is_end (access.Print v) = false
is_end (access.Fail cause) = false
is_end access.Finish = true
is_end access.Spend = false

-- ---- events of accesses

-- an event that doesn't fail gives what its access reads
event_gives : (m : Memory) (v : ThreadView) (i : ℕ) (a : Access) (c : Choice) → AdmitsChoice m v a c → is_failure (step_result m v i a c).event ≡ false → GivesWhatIsRead a (step_result m v i a c).event
event_gives m v i (access.NaRead x) c q f r = (read_value m v x, refl)
event_gives m v i (access.NaWrite x n) c q f r = absurd (false≢true r)
event_gives m v i (access.Read y order) (Message to) q f r = ((read_at m y to).value, refl)
event_gives m v i (access.Write y order n) c q f r = absurd (false≢true r)
event_gives m v i (access.Update y order kind) (Message to) q f r =
    cond_both (meets_undef kind (read_at m y to).value) _ _ (λ (o : StepResult). is_failure o.event ≡ false → (w : Val) × (given_by o.event ≡ Some w)) (λ b g. absurd (true≢false g)) (λ b g. ((read_at m y to).value, refl)) f
event_gives m v i (access.Update y order kind) (Take read to) q f r = ((read_at m y read).value, refl)
event_gives m v i (access.Fence order) c q f r = absurd (false≢true r)
event_gives m v i (access.Print n) c q f r = absurd (false≢true r)
event_gives m v i (access.Fail cause) c q f r = absurd (false≢true r)
event_gives m v i access.Finish c q f r = absurd (false≢true r)
event_gives m v i access.Spend c q f r = absurd (false≢true r)
event_gives m v i (access.Read y order) _ q f r = absurd q
event_gives m v i (access.Update y order kind) _ q f r = absurd q

reads_at : (s : Stack) (x : ℕ) (o : Option Head) → next_after s o ≡ next.Access (access.NaRead x) → option_map_or is_plain_load o false ≡ true
reads_at s x None e = ends s.callers e
  where
    ends : (cs : List Frame) → ended cs ≡ next.Access (access.NaRead x) → option_map_or is_plain_load None false ≡ true
    ends [] f = absurd (true≢false (ap (λ (n : Next). is_end (asked n)) f))
    ends (c ∷ cs) f = absurd (asks_not_silent (access.NaRead x) (sym f))
reads_at s x (Some head) e = load_head head x (sym (asks_by_head s.top.registers (1 + length s.callers) head).loads ∙ ap (λ (n : Next). loaded_by (asked n)) e)

-- ---- states

-- a step by what comes next
leads_by : (p : Program) (s : State) (i : ℕ) (c : Choice) (n : Next) (kind : Stepped → Type 0) (more : State → Type 0) → next_in s i ≡ n → LeadsOn kind (step_by p s i c n) more → LeadsOn kind (after_step p s i c) more
leads_by p s i c n kind more e h = subst (λ (k : Next). LeadsOn kind (step_by p s i c k) more) (sym e) h

abbrev did : Stepped → Bool
did stepped.Silent = false
did (stepped.Did e) = true

abbrev event_done : Stepped → Event
event_done stepped.Silent = event.Spend
event_done (stepped.Did e) = e

set_related : (source target : Program) (xs ys : List Stack) (i : ℕ) (lt ls : Stack) → i < length xs → length xs ≡ length ys → ((j : ℕ) → j < length xs → StacksTidied source target (get_or xs j idle) (get_or ys j idle)) → StacksTidied source target lt ls
    → (j : ℕ) → j < length (set xs i lt) → StacksTidied source target (get_or (set xs i lt) j idle) (get_or (set ys i ls) j idle)
set_related source target xs ys i lt ls l same each own j k =
    ⊎_elim
    (λ (e : j ≡ i).
    subst (λ (n : ℕ). StacksTidied source target (get_or (set xs i lt) n idle) (get_or (set ys i ls) n idle)) (sym e)
    (subst (λ (u : Stack). StacksTidied source target u (get_or (set ys i ls) i idle)) (sym (get_or-set_same xs i lt idle l))
    (subst (StacksTidied source target lt) (sym (get_or-set_same ys i ls idle (omega (arith, l, same)))) own)))
    (λ (n : j ≡ i → ⊥).
    subst (λ (u : Stack). StacksTidied source target u (get_or (set ys i ls) j idle)) (sym (get_or-set_other xs i j lt idle n))
    (subst (StacksTidied source target (get_or xs j idle)) (sym (get_or-set_other ys i j ls idle n)) (each j (omega (arith, k, length-set xs i lt)))))
    (cases_eq j i)

abbrev state_of : List Stack → List ThreadView → List Bool → Memory → State
state_of l v e m = record { locals = l; views = v; ended = e; memory = m }

module _ (source target : Program) (ok : AreTidied source target) (t s : State) (i : ℕ) (h : AreStatesTidied source target t s) (running : IsRunning t i) where
  there_too : i < length s.locals
  there_too = omega (arith, running.there, h.count)

  running_too : IsRunning s i
  running_too = record {
    there = there_too;
    going = ap (λ (x : List Bool). get_or x i true) (sym h.ended) ∙ running.going;
    running = ap (λ (m : Memory). m.failed) (sym h.memory) ∙ running.running;
  }

  goes : TidiedGoOn source target (local_in t i) (local_in s i)
  goes = threads_go_on (function_pairs source target ok) (h.threads i running.there) (all_get (IsProperStack source) s.locals i idle there_too h.reached.stacks)

  same_views : set s.views i (view_in s i) ≡ s.views
  same_views = set-get_or s.views i no_view

  same_ended : set s.ended i false ≡ s.ended
  same_ended = ap (λ (b : Bool). set s.ended i b) (sym running_too.going) ∙ set-get_or s.ended i true

  -- the relation after a step of thread i
  moved : (lt ls : Stack) → StacksTidied source target lt ls → (vt vs : List ThreadView) → vt ≡ vs → (et es : List Bool) → et ≡ es → (mt ms : Memory) → mt ≡ ms → (t' s' : State)
      → t' ≡ state_of (set t.locals i lt) vt et mt → s' ≡ state_of (set s.locals i ls) vs es ms → IsReached source s' → AreStatesTidied source target t' s'
  moved lt ls own vt vs v et es e mt ms m t' s' is_t is_s reached =
      subst (λ (x : State). AreStatesTidied source target x s') (sym is_t)
      (subst (AreStatesTidied source target (state_of (set t.locals i lt) vt et mt)) (sym is_s) (record {
        memory = m;
        views = v;
        ended = e;
        count = omega (arith, h.count, length-set t.locals i lt, length-set s.locals i ls);
        threads = set_related source target t.locals s.locals i lt ls running.there h.count h.threads own;
        reached = subst (IsReached source) is_s reached;
      }))

  -- ---- a silent step

  module _ (quiet : next_in t i ≡ next.Silent) where
    abbrev t' : State
    t' = (after_step target t i Plain).state

    is_silent_t : t' ≡ state_of (set t.locals i (advanced target (local_in t i))) t.views t.ended t.memory
    is_silent_t = ap (λ (n : Next). (step_by target t i Plain n).state) quiet

    able : (n : Next) → next_in s i ≡ n → Allows s.memory (view_in s i) Plain n → IsStep s i Plain
    able n e a = record { able = running_too; allowed = subst (Allows s.memory (view_in s i) Plain) (sym e) a }

    reached_by : (n : Next) → next_in s i ≡ n → IsStep s i Plain → IsReached source (step_by source s i Plain n).state
    reached_by n e step = subst (λ (k : Next). IsReached source (step_by source s i Plain k).state) e (step_reached source s i Plain ok.source_proper h.reached step)

    silent_by : TidiedGoOn source target (local_in t i) (local_in s i) → PlaysStep source i s (AreStatesTidied source target t')
    silent_by (both_silent a b k) =
        let step = able next.Silent b refl in
        record {
          step = step;
          leads = leads_by source s i Plain next.Silent IsQuiet (AreStatesTidied source target t') b
              (inr (tt, moved (advanced target (local_in t i)) (advanced source (local_in s i)) k t.views s.views h.views t.ended s.ended h.ended t.memory s.memory h.memory t' (step_by source s i Plain next.Silent).state is_silent_t refl (reached_by next.Silent b step)));
        }
    silent_by (source_reads x a b k) =
        let step = able (next.Access (access.NaRead x)) b (record { running = running_too.running; admits = tt }) in
        record {
          step = step;
          leads = leads_by source s i Plain (next.Access (access.NaRead x)) IsQuiet (AreStatesTidied source target t') b
              (inr (refl, moved (advanced target (local_in t i)) (resumed (local_in s i) (event.NaRead x (read_value s.memory (view_in s i) x))) (k (read_value s.memory (view_in s i) x)) t.views (set s.views i (view_in s i)) (h.views ∙ sym same_views) t.ended (set s.ended i false) (h.ended ∙ sym same_ended) t.memory s.memory h.memory t' (step_by source s i Plain (next.Access (access.NaRead x))).state is_silent_t refl (reached_by (next.Access (access.NaRead x)) b step)));
        }
    silent_by (source_fails cause a b) =
        record {
          step = able (next.Access (access.Fail cause)) b (record { running = running_too.running; admits = tt });
          leads = leads_by source s i Plain (next.Access (access.Fail cause)) IsQuiet (AreStatesTidied source target t') b (inl refl);
        }
    silent_by (both_finish a b) = absurd (asks_not_silent access.Finish (sym a ∙ quiet))
    silent_by (both_ask a f g o k) = absurd (asks_not_silent a (sym f ∙ quiet))
    silent_by (both_fail cause a b) = absurd (asks_not_silent (access.Fail cause) (sym a ∙ quiet))

    pub silent_answered : PlaysStep source i s (AreStatesTidied source target t')
    silent_answered = silent_by goes

  -- ---- an access

  module _ (e : Event) (step : IsStep t i (choice_of_event e)) (done : (after_step target t i (choice_of_event e)).done ≡ stepped.Did e) where
    abbrev c : Choice
    c = choice_of_event e

    abbrev t'' : State
    t'' = (after_step target t i c).state

    -- what comes of an access that both make
    module _ (a : Access) (asks_t : next_in t i ≡ next.Access a) (asks_s : next_in s i ≡ next.Access a) where
      abbrev ot : StepResult
      ot = step_result t.memory (view_in t i) i a c

      abbrev os : StepResult
      os = step_result s.memory (view_in s i) i a c

      one_result : ot ≡ os
      one_result = λ j. step_result (h.memory j) (get_or (h.views j) i no_view) i a c

      event_t : ot.event ≡ e
      event_t = sym (ap (λ (n : Next). event_done (step_by target t i c n).done) asks_t) ∙ ap event_done done

      event_s : os.event ≡ e
      event_s = ap (λ (o : StepResult). o.event) (sym one_result) ∙ event_t

      legal_t : IsLegal t.memory (view_in t i) a c
      legal_t = subst (Allows t.memory (view_in t i) c) asks_t step.allowed

      legal_s : IsLegal s.memory (view_in s i) a c
      legal_s = subst (λ (m : Memory). IsLegal m (view_in s i) a c) h.memory (subst (λ (v : List ThreadView). IsLegal t.memory (get_or v i no_view) a c) h.views legal_t)

      able_s : IsStep s i c
      able_s = record { able = running_too; allowed = subst (Allows s.memory (view_in s i) c) (sym asks_s) legal_s }

      state_t : t'' ≡ state_of (set t.locals i (local_after_event (local_in t i) ot.event)) (set t.views i ot.view) (set t.ended i (is_finish ot.event)) ot.memory
      state_t = ap (λ (n : Next). (step_by target t i c n).state) asks_t

      state_s : (after_step source s i c).state ≡ state_of (set s.locals i (local_after_event (local_in s i) os.event)) (set s.views i os.view) (set s.ended i (is_finish os.event)) os.memory
      state_s = ap (λ (n : Next). (step_by source s i c n).state) asks_s

      done_s : (after_step source s i c).done ≡ stepped.Did os.event
      done_s = ap (λ (n : Next). (step_by source s i c n).done) asks_s

      related : StacksTidied source target (local_after_event (local_in t i) ot.event) (local_after_event (local_in s i) os.event) → AreStatesTidied source target t'' (after_step source s i c).state
      related own =
          moved (local_after_event (local_in t i) ot.event) (local_after_event (local_in s i) os.event) own
          (set t.views i ot.view) (set s.views i os.view) (λ j. set (h.views j) i (let o : StepResult = one_result j in o.view))
          (set t.ended i (is_finish ot.event)) (set s.ended i (is_finish os.event)) (λ j. set (h.ended j) i (let o : StepResult = one_result j in is_finish o.event))
          ot.memory os.memory (ap (λ (o : StepResult). o.memory) one_result)
          t'' (after_step source s i c).state state_t state_s (step_reached source s i c ok.source_proper h.reached able_s)

      has_done : HasDone e (after_step source s i c).done
      has_done = subst (HasDone e) (sym done_s) (subst (λ (d : Event). IsEventBelow e d) (sym event_s) (event_refl e))

      has_failed : is_failure e ≡ true → HasFailed (after_step source s i c).done
      has_failed f = subst HasFailed (sym done_s) (ap is_failure event_s ∙ f)

      -- the access is answered by itself, and fails where it fails
      by_itself : (is_failure e ≡ false → AreStatesTidied source target t'' (after_step source s i c).state) → PlaysAccess source i e s (AreStatesTidied source target t'')
      by_itself more = inl (record {
        step = able_s;
        leads = ⊎_elim (λ (f : is_failure e ≡ true). inl (has_failed f)) (λ (f : is_failure e ≡ false). inr (has_done, more f)) (cases_Bool (is_failure e));
      })

      as_access : ends_by a ≡ false → PlaysAccess source i e s (AreStatesTidied source target t'') → PlaysEvent source false i e s (AreStatesTidied source target t'')
      as_access o q =
          plays_access source false i e s (AreStatesTidied source target t'') (ap ends_thread (sym event_t) ∙ event_goes t.memory (view_in t i) i a c legal_t.admits o)
          (λ f.
          let load = event_read t.memory (view_in t i) i a c (ap is_read event_t ∙ f) in
          reads_at (local_in s i) load.0 (first_head (local_in s i).top.continuation) (asks_s ∙ ap (λ (b : Access). next.Access b) load.1))
          q

    not_quiet : next_in t i ≡ next.Silent → ⊥
    not_quiet f = false≢true (sym (ap (λ (n : Next). did (step_by target t i c n).done) f) ∙ ap did done)

    access_by : TidiedGoOn source target (local_in t i) (local_in s i) → PlaysEvent source false i e s (AreStatesTidied source target t'')
    access_by (both_ask a f g o k) =
        as_access a f g o
        (by_itself a f g (λ fine.
        let goes_t : is_failure (ot a f g).event ≡ false = ap is_failure (event_t a f g) ∙ fine in
        let goes_s : is_failure (os a f g).event ≡ false = ap is_failure (event_s a f g) ∙ fine in
        let on_t : ends_thread (ot a f g).event ≡ false = event_goes t.memory (view_in t i) i a c (legal_t a f g).admits o in
        let on_s : ends_thread (os a f g).event ≡ false = event_goes s.memory (view_in s i) i a c (legal_s a f g).admits o in
        related a f g
        (subst (λ (l : Stack). StacksTidied source target l (local_after_event (local_in s i) (os a f g).event)) (sym (goes_past (local_in t i) (ot a f g).event goes_t on_t))
        (subst (StacksTidied source target (resumed (local_in t i) (ot a f g).event)) (sym (goes_past (local_in s i) (os a f g).event goes_s on_s))
        (subst (λ (d : Event). StacksTidied source target (resumed (local_in t i) (ot a f g).event) (resumed (local_in s i) d)) (event_t a f g ∙ sym (event_s a f g))
        (k (ot a f g).event (event_gives t.memory (view_in t i) i a c (legal_t a f g).admits goes_t)))))))
    access_by (both_fail cause f g) =
        as_access (access.Fail cause) f g refl
        (by_itself (access.Fail cause) f g (λ fine. absurd (true≢false (ap is_failure (event_t (access.Fail cause) f g) ∙ fine))))
    access_by (both_finish f g) = finishes (sym (event_t access.Finish f g))
      where
        finishes : e ≡ event.Finish → PlaysEvent source false i e s (AreStatesTidied source target t'')
        finishes is =
            subst (λ (d : Event). PlaysEvent source false i d s (AreStatesTidied source target t'')) (sym is) (record {
              step = subst (λ (d : Choice). IsStep s i d) (ap choice_of_event is) (able_s access.Finish f g);
              done = subst (λ (d : Event). HasDone d (after_step source s i (choice_of_event d)).done) is (has_done access.Finish f g);
              leads = subst (λ (d : Choice). AreStatesTidied source target t'' (after_step source s i d).state) (ap choice_of_event is) (related access.Finish f g (h.threads i running.there));
            })
    access_by (both_silent f g k) = absurd (not_quiet f)
    access_by (source_reads x f g k) = absurd (not_quiet f)
    access_by (source_fails cause f g) = absurd (not_quiet f)

    pub access_answered : PlaysEvent source false i e s (AreStatesTidied source target t'')
    access_answered = access_by goes

  -- ---- the end of a budget

  unfinished_by : (next_in t i ≡ next.Access access.Finish → ⊥) → TidiedGoOn source target (local_in t i) (local_in s i) → next_in s i ≡ next.Access access.Finish → ⊥
  unfinished_by not (both_silent f g k) e = asks_not_silent access.Finish (sym e ∙ g)
  unfinished_by not (both_finish f g) e = not f
  unfinished_by not (both_ask a f g o k) e = not (f ∙ sym g ∙ e)
  unfinished_by not (both_fail cause f g) e = not (f ∙ sym g ∙ e)
  unfinished_by not (source_reads x f g k) e = false≢true (ap is_end (asked_same (access.NaRead x) access.Finish (sym g ∙ e)))
  unfinished_by not (source_fails cause f g) e = false≢true (ap is_end (asked_same (access.Fail cause) access.Finish (sym g ∙ e)))

spends : (source target : Program) → AreTidied source target → (t s : State) (i : ℕ) → AreStatesTidied source target t s → IsSpendable t i → IsSpendable s i × AreStatesTidied source target (after_spend t i) (after_spend s i)
spends source target ok t s i h p = (
  able,
  record {
    memory = h.memory;
    views = h.views;
    ended = ap (λ (x : List Bool). set x i true) h.ended;
    count = h.count;
    threads = h.threads;
    reached = event_reached source s i event.Spend true ok.source_proper h.reached able;
  },
)
  where
    able : IsSpendable s i
    able = record { able = running_too source target ok t s i h p.able; unfinished = unfinished_by source target ok t s i h p.able p.unfinished (goes source target ok t s i h p.able) }

by_event : (source target : Program) → AreTidied source target → (t s : State) (i : ℕ) → AreStatesTidied source target t s → (e : Event) (b : Bool) → is_spend e ≡ b → MakesEventBy target t i e b
    → PlaysEvent source false i e s (AreStatesTidied source target (after_event_by target t i e b))
by_event source target ok t s i h e true q m = subst (λ (d : Event). PlaysEvent source false i d s (AreStatesTidied source target (after_spend t i))) (sym (spend_is e q)) (spends source target ok t s i h m)
by_event source target ok t s i h e false q m = access_answered source target ok t s i h m.step.able e m.step m.event

pub silent_played : TidiedSilentStepsArePlayed
silent_played source target t s i ok h step quiet = silent_answered source target ok t s i h step.able quiet

pub events_played : TidiedEventsArePlayed
events_played source target t s i e ok h m = by_event source target ok t s i h e (is_spend e) refl m
