-- Playing goes on.
use Rattle.std.proofs.Common.{◌≡◌, ℕ, zero, suc, ◌+◌, ◌-◌, ◌*◌, ◌^◌, ◌<◌, ◌≤◌, Bool, true, false, cond, List, [], ◌∷◌, ◌++◌, length, get_or, set, replicate, take, drop, slice_get, Some, refl, sym, ap, ◌∙◌, subst, arith, ◌⊎◌, inl, inr, ⊎_elim}
use Rattle.std.proofs.lemmas.Bool.{false≢true, true≢false, both_ways}
use Rattle.std.proofs.lemmas.List.{length-set, length-map, length-replicate, take-append-drop}
use Rattle.std.proofs.lemmas.Option.{none-some, same_Some}
use Rattle.values_undef.specs.Access.{choice_of_event, is_failure, ends_thread, is_read, weight}
use Rattle.values_undef.specs.declared.value.Val.{Val}
use Rattle.values_undef.proofs.Callers.{event_refl, failure_same, spend_same, failure_no_spend, untraced_no_spend, untraced_goes, goes_no_spend}
use Rattle.values_undef.specs.Journal.{used_steps}
use Rattle.values_undef.specs.declared.access.Choice.{Choice}
use Rattle.values_undef.specs.declared.access.Choice.TheVariants.{Plain}
use Rattle.values_undef.specs.declared.access.Event.{Event}
use Rattle.values_undef.specs.declared.access.Event.TheVariants as event
use Rattle.values_undef.specs.declared.journal.Entry.{Entry}
use Rattle.il_syntax.specs.declared.program.Program.{Program}
use Rattle.message_memory.specs.Step.{step_result, MemStep}
use Rattle.message_memory.proofs.Callers.{step_choice}
use Rattle.view_machine.specs.State.{view_in, Allows, State, next_in, IsStep, IsRunning, step_by, after_step, IsSpendable, after_spend, initial_state}
use Rattle.values_undef.specs.Matching.{IsEventBelow, is_traced, without_place}
use Rattle.thread_core.specs.Programs.{IsProperProgram}
use Rattle.thread_core.specs.Steps.{stack_in}
use Rattle.thread_core.specs.declared.next.Next.{Next}
use Rattle.thread_core.specs.declared.next.Next.TheVariants as next
use Rattle.view_machine.specs.declared.stepped.Stepped.{Stepped}
use Rattle.view_machine.specs.declared.stepped.Stepped.TheVariants as stepped
use Rattle.view_machine.specs.Held.{Held, state_in, IsOf, HasRoom}
use Rattle.view_machine.specs.Runs.{is_spend, MakesEvent, MakesEventBy, after_event, after_event_by, after_entry, IsRunTo}
use Rattle.view_machine.proofs.Callers.{run_goes_on, runs_have_room, runs_short}
use Rattle.refinement.specs.Refinement.{Refines, EndsInFailure}
use Rattle.refinement.specs.Books.{at_thread, entry_of, recorded, OpenBooks, ClosedBooks}
use Rattle.refinement.specs.Playing.{HasFailed, IsQuiet, HasDone, LeadsOn, PlaysStep, PlaysSteps, PlaysAccess, PlaysEnd, PlaysLoad, PlaysEvent, IsPlayable, at_load}
use Rattle.refinement.specs.Ahead.{IsAhead}
use Rattle.refinement.specs.Playings.{Played, IsNoted, IsMade, IsRecorded, IsSame, IsNoStep, IsReady, IsOpen, IsOver, IsPlayed, AreFew}
use Rattle.refinement.proofs.Traces.{used_steps-append, IsAt, IsElsewhere, at_or_elsewhere}
use Rattle.refinement.proofs.Keeping.{books_begin, books_refine, books_open, silent_carried, quiet_recorded, events_recorded, news_left_out, failures_refine}
use Rattle.refinement.proofs.Ahead.{ahead_begins, silent_steps_run_ahead, events_are_entries}
use Rattle.views.proofs.Callers.{get_or-zeros}

abbrev is_silent : Stepped → Bool
is_silent stepped.Silent = true
is_silent (stepped.Did e) = false

abbrev next_silent : Next → Bool
next_silent next.Silent = true
next_silent (next.Access a) = false

abbrev event_done : Stepped → Event
event_done stepped.Silent = event.Spend
event_done (stepped.Did e) = e

-- ---- a step with an event is that event's

choice_by : (p : Program) (u : State) (i : ℕ) (c : Choice) (f : Event) (n : Next) → next_in u i ≡ n → IsStep u i c → (after_step p u i c).done ≡ stepped.Did f → choice_of_event f ≡ c
choice_by p u i c f next.Silent q h d = absurd (false≢true (sym (ap is_silent d) ∙ ap (λ (n : Next). is_silent (step_by p u i c n).done) q))
choice_by p u i c f (next.Access a) q h d =
    let o = step_result u.memory (view_in u i) i a c in
    let is : o.event ≡ f = sym (ap (λ (n : Next). event_done (step_by p u i c n).done) q) ∙ ap event_done d in
    let made : MemStep u.memory (view_in u i) i a c f o.memory o.view = record { legal = subst (Allows u.memory (view_in u i) c) q h.allowed; event = is; memory = refl; view = refl } in
    step_choice made

pub record IsAccess (p : Program) (u : State) (i : ℕ) (c : Choice) (f : Event) : Type 0 where
  pub makes : MakesEvent p u i f
  pub after : after_event p u i f ≡ (after_step p u i c).state

step_is_access : (p : Program) (u : State) (i : ℕ) (c : Choice) (f : Event) → IsStep u i c → (after_step p u i c).done ≡ stepped.Did f → is_spend f ≡ false → IsAccess p u i c f
step_is_access p u i c f h d q =
    let same : choice_of_event f ≡ c = choice_by p u i c f (next_in u i) refl h d in
    record {
      makes = subst (MakesEventBy p u i f) (sym q) (record {
        step = subst (IsStep u i) (sym same) h;
        event = ap (λ (x : Choice). (after_step p u i x).done) same ∙ d;
      });
      after = ap (after_event_by p u i f) q ∙ ap (λ (x : Choice). (after_step p u i x).state) same;
    }

-- ---- what is recorded

ended_in : (js : List Entry) (carry : List ℕ) (i : ℕ) (f : Event) → is_failure f ≡ true → EndsInFailure (recorded js carry i f)
ended_in js carry i f h = record { before = js; last = entry_of i (get_or carry i 0) f; split = refl; fails = h }

-- thread i notes an access
access_recorded : (p : Program) (i : ℕ) (c : Choice) (f : Event) (old new : Played) (failed : Bool) → i < length old.silent → IsRecorded p old → IsMade p i c old new failed → (after_step p (state_in p old.machine) i c).done ≡ stepped.Did f → is_spend f ≡ false
    → IsRecorded p new × (new.silent ≡ set old.silent i 0) × (new.entries ≡ recorded old.entries old.silent i f) × (failed ≡ is_failure f)
access_recorded p i c f old new failed there r m d q =
    let u = state_in p old.machine in
    let a = step_is_access p u i c f m.step d q in
    let e = events_are_entries p old.silent r.state u i f there r.ahead a.makes in
    let noted : IsNoted i old new failed (stepped.Did f) = subst (IsNoted i old new failed) d m.noted in (
      record {
        state = after_entry p r.state (entry_of i (get_or old.silent i 0) f);
        run = subst (λ (js : List Entry). IsRunTo p js (after_entry p r.state (entry_of i (get_or old.silent i 0) f))) (sym noted.1) (run_goes_on p old.entries r.state (entry_of i (get_or old.silent i 0) f) r.run e.0);
        ahead = subst (λ (carry : List ℕ). IsAhead p carry (after_entry p r.state (entry_of i (get_or old.silent i 0) f)) (state_in p new.machine)) (sym noted.0)
            (subst (IsAhead p (set old.silent i 0) (after_entry p r.state (entry_of i (get_or old.silent i 0) f))) (a.after ∙ m.state) e.1);
        threads = ap length noted.0 ∙ length-set old.silent i 0 ∙ r.threads;
        program = m.program;
      },
      noted.0,
      noted.1,
      noted.2,
    )

-- thread i notes a silent step
silent_recorded : (p : Program) (i : ℕ) (old new : Played) (failed : Bool) → i < length old.silent → IsRecorded p old → IsMade p i Plain old new failed → (after_step p (state_in p old.machine) i Plain).done ≡ stepped.Silent
    → IsRecorded p new × (new.silent ≡ set old.silent i (get_or old.silent i 0 + 1)) × (new.entries ≡ old.entries) × (failed ≡ false)
silent_recorded p i old new failed there r m d =
    let u = state_in p old.machine in
    let noted : IsNoted i old new failed stepped.Silent = subst (IsNoted i old new failed) d m.noted in (
      record {
        state = r.state;
        run = subst (λ (js : List Entry). IsRunTo p js r.state) (sym noted.1) r.run;
        ahead = subst (λ (carry : List ℕ). IsAhead p carry r.state (state_in p new.machine)) (sym noted.0)
            (subst (IsAhead p (set old.silent i (get_or old.silent i 0 + 1)) r.state) m.state (silent_steps_run_ahead p old.silent r.state u i there r.ahead m.step (quiet (next_in u i) refl)));
        threads = ap length noted.0 ∙ length-set old.silent i (get_or old.silent i 0 + 1) ∙ r.threads;
        program = m.program;
      },
      noted.0,
      noted.1,
      noted.2,
    )
  where
    quiet : (n : Next) → next_in (state_in p old.machine) i ≡ n → n ≡ next.Silent
    quiet next.Silent q = refl
    quiet (next.Access a) q = absurd (false≢true (sym (ap (λ (n : Next). is_silent (step_by p (state_in p old.machine) i Plain n).done) q) ∙ ap is_silent d))

-- ---- within an entry

module _ (p : Program) (news : Bool) (done : List Entry) (entry : Entry) (rest : List Entry) (k : ℕ) (w : Played) (o : IsOpen p news done entry rest k w) where
  abbrev u : State
  u = state_in p w.machine

  in_silent : IsRunning u entry.thread → entry.thread < length w.silent
  in_silent r = omega (arith, r.there, length-map w.machine.locals (stack_in p), o.recorded.program.threads, o.recorded.threads)

  used_all : (j : ℕ) → used_steps (done ++ entry ∷ rest) j ≡ used_steps done j + (at_thread entry.thread (entry.silent + weight entry.event) j + used_steps rest j)
  used_all j = used_steps-append done (entry ∷ rest) j

  used_within : k ≤ entry.silent → (j : ℕ) → used_steps w.entries j + get_or w.silent j 0 ≤ used_steps (done ++ entry ∷ rest) j
  used_within l j =
      ⊎_elim
      (λ (h : IsAt entry.thread j). omega (arith, o.books.within j, used_all j, h.number k, h.number (entry.silent + weight entry.event), l))
      (λ (h : IsElsewhere entry.thread j). omega (arith, o.books.within j, used_all j, h.number k, h.number (entry.silent + weight entry.event)))
      (at_or_elsewhere entry.thread j)

  pub carried_few : k ≤ entry.silent → AreFew (done ++ entry ∷ rest) → (j : ℕ) → get_or w.silent j 0 < 2 ^ 40
  carried_few l few j = omega (arith, used_within l j, few j)

  entries_few : IsProperProgram p → k ≤ entry.silent → AreFew (done ++ entry ∷ rest) → length w.entries < 2 ^ 60
  entries_few ok l few =
      let short : length w.entries ≤ length p.threads * (2 ^ 40 + 1) = runs_short p w.entries (2 ^ 40) o.recorded.run.run (λ j there. omega (arith, used_within l j, few j)) in
      omega (arith, short, ok.few_threads)

  pub has_room : IsProperProgram p → k ≤ entry.silent → AreFew (done ++ entry ∷ rest) → HasRoom w.machine.memory
  has_room ok l few = subst HasRoom (sym o.recorded.ahead.memory) (runs_have_room p w.entries o.recorded.state ok o.recorded.run (entries_few ok l few))

  -- ---- a silent step of the journal

  abbrev more : State → Type 0
  more x = PlaysEvent p news entry.thread entry.event x (λ y. IsPlayable p news y rest)

  next_step : k < entry.silent → PlaysStep p entry.thread u (λ x. PlaysSteps p entry.thread (entry.silent - (k + 1)) x more)
  next_step l =
      let one : entry.silent - k ≡ suc (entry.silent - (k + 1)) = omega (arith, l) in
      subst (λ (n : ℕ). PlaysSteps p entry.thread n u more) one o.playable

  pub silent_there : k < entry.silent → IsStep u entry.thread Plain
  silent_there l = (next_step l).step

  over : (f : Event) (w' : Played) (failed : Bool) → is_failure f ≡ true → k + 1 ≤ entry.silent + weight entry.event → IsRecorded p w' × (w'.silent ≡ set w.silent entry.thread 0) × (w'.entries ≡ recorded w.entries w.silent entry.thread f) × (failed ≡ is_failure f)
      → IsOver p (done ++ entry ∷ rest) w'
  over f w' failed fails room r = record {
    run = r.0.run.run;
    refines = subst (Refines (done ++ entry ∷ rest)) (sym r.2) (failures_refine news entry.thread k entry.silent done w.entries rest w.silent entry.event f fails room o.books);
    fails = subst EndsInFailure (sym r.2) (ended_in w.entries w.silent entry.thread f fails);
  }

  pub silent_goes : (w' : Played) (failed : Bool) → k < entry.silent → IsMade p entry.thread Plain w w' failed
      → (failed ≡ false → IsOpen p news done entry rest (k + 1) w') × (failed ≡ true → IsOver p (done ++ entry ∷ rest) w')
  silent_goes w' failed l m = choose (after_step p u entry.thread Plain).done refl (next_step l).leads
    where
      there : entry.thread < length w.silent
      there = in_silent m.step.able

      after : State → Type 0
      after x = PlaysSteps p entry.thread (entry.silent - (k + 1)) x more

      choose : (d : Stepped) → (after_step p u entry.thread Plain).done ≡ d → LeadsOn IsQuiet (after_step p u entry.thread Plain) (λ x. PlaysSteps p entry.thread (entry.silent - (k + 1)) x more)
          → (failed ≡ false → IsOpen p news done entry rest (k + 1) w') × (failed ≡ true → IsOver p (done ++ entry ∷ rest) w')
      choose stepped.Silent e (inl h) = absurd (subst HasFailed e h)
      choose stepped.Silent e (inr h) =
          let r = silent_recorded p entry.thread w w' failed there o.recorded m e in (
            λ _. record {
              recorded = r.0;
              playable = subst (λ (x : State). PlaysSteps p entry.thread (entry.silent - (k + 1)) x more) m.state h.1;
              books = subst (λ (js : List Entry). OpenBooks news entry.thread (k + 1) done js w'.silent) (sym r.2)
                  (subst (OpenBooks news entry.thread (k + 1) done w.entries) (sym r.1) (silent_carried news entry.thread k done w.entries w.silent there o.books));
            },
            λ f. absurd (false≢true (sym r.3 ∙ f)),
          )
      choose (stepped.Did f) e (inl h) =
          let fails : is_failure f ≡ true = subst HasFailed e h in
          let r = access_recorded p entry.thread Plain f w w' failed there o.recorded m e (failure_no_spend f fails) in
          (λ g. absurd (false≢true (sym g ∙ r.3 ∙ fails)), λ _. over f w' failed fails (omega (arith, l)) r)
      choose (stepped.Did f) e (inr h) =
          let quiet : is_traced f ≡ false = subst IsQuiet e h.0 in
          let r = access_recorded p entry.thread Plain f w w' failed there o.recorded m e (untraced_no_spend f quiet) in (
            λ _. record {
              recorded = r.0;
              playable = subst (λ (x : State). PlaysSteps p entry.thread (entry.silent - (k + 1)) x more) m.state h.1;
              books = subst (λ (js : List Entry). OpenBooks news entry.thread (k + 1) done js w'.silent) (sym r.2)
                  (subst (OpenBooks news entry.thread (k + 1) done (recorded w.entries w.silent entry.thread f)) (sym r.1) (quiet_recorded news entry.thread k done w.entries w.silent f there quiet o.books));
            },
            λ g. absurd (both_ways (is_failure f) (untraced_goes f quiet) (sym r.3 ∙ g)),
          )

  -- ---- the event of the journal's entry

  module _ (all : k ≡ entry.silent) where
    at_event : PlaysEvent p news entry.thread entry.event u (λ y. IsPlayable p news y rest)
    at_event =
        let none : entry.silent - k ≡ zero = omega (arith, all) in
        subst (λ (n : ℕ). PlaysSteps p entry.thread n u more) none o.playable

    books_at : OpenBooks news entry.thread entry.silent done w.entries w.silent
    books_at = subst (λ (n : ℕ). OpenBooks news entry.thread n done w.entries w.silent) all o.books

    -- the books after an event that stands above the journal's
    closed : (f : Event) (w' : Played) → entry.thread < length w.silent → IsEventBelow entry.event f → w'.silent ≡ set w.silent entry.thread 0 → w'.entries ≡ recorded w.entries w.silent entry.thread f
        → ClosedBooks news (done ++ entry ∷ []) w'.entries w'.silent
    closed f w' there below e g =
        subst (λ (js : List Entry). ClosedBooks news (done ++ entry ∷ []) js w'.silent) (sym g)
        (subst (ClosedBooks news (done ++ entry ∷ []) (recorded w.entries w.silent entry.thread f)) (sym e) (events_recorded news entry.thread entry.silent done w.entries w.silent entry.event f there below books_at))

    -- the end of a budget
    pub spend_there : entry.event ≡ event.Spend → IsSpendable u entry.thread
    spend_there e = (subst (λ (f : Event). PlaysEvent p news entry.thread f u (λ y. IsPlayable p news y rest)) e at_event).0

    pub spend_goes : (w' : Played) → entry.event ≡ event.Spend → state_in p w'.machine ≡ after_spend u entry.thread → w'.silent ≡ set w.silent entry.thread 0 → w'.entries ≡ recorded w.entries w.silent entry.thread event.Spend → IsOf p w'.machine
        → IsReady p news (done ++ entry ∷ []) rest w'
    spend_goes w' e state f g program =
        let played = subst (λ (f : Event). PlaysEvent p news entry.thread f u (λ y. IsPlayable p news y rest)) e at_event in
        let there : entry.thread < length w.silent = in_silent played.0.able in
        let entered = events_are_entries p w.silent o.recorded.state u entry.thread event.Spend there o.recorded.ahead played.0 in
        let ahead : IsAhead p (set w.silent entry.thread 0) (after_entry p o.recorded.state (entry_of entry.thread (get_or w.silent entry.thread 0) event.Spend)) (state_in p w'.machine) = subst (IsAhead p (set w.silent entry.thread 0) (after_entry p o.recorded.state (entry_of entry.thread (get_or w.silent entry.thread 0) event.Spend))) (sym state) entered.1 in
        record {
          recorded = record {
            state = after_entry p o.recorded.state (entry_of entry.thread (get_or w.silent entry.thread 0) event.Spend);
            run = subst (λ (js : List Entry). IsRunTo p js (after_entry p o.recorded.state (entry_of entry.thread (get_or w.silent entry.thread 0) event.Spend))) (sym g) (run_goes_on p w.entries o.recorded.state (entry_of entry.thread (get_or w.silent entry.thread 0) event.Spend) o.recorded.run entered.0);
            ahead = subst (λ (carry : List ℕ). IsAhead p carry (after_entry p o.recorded.state (entry_of entry.thread (get_or w.silent entry.thread 0) event.Spend)) (state_in p w'.machine)) (sym f) ahead;
            threads = ap length f ∙ length-set w.silent entry.thread 0 ∙ o.recorded.threads;
            program = program;
          };
          playable = subst (λ (x : State). IsPlayable p news x rest) (sym state) played.1;
          books = closed event.Spend w' there (subst (λ (f : Event). IsEventBelow f event.Spend) (sym e) (event_refl event.Spend)) f g;
        }

    -- a load of the other program's own
    pub left_out : (x : ℕ) (v : Val) → entry.event ≡ event.NaRead x v → at_load u entry.thread ≡ false → IsReady p news (done ++ entry ∷ []) rest w
    left_out x v e away =
        let played = subst (λ (b : Bool). PlaysLoad p news entry.thread (event.NaRead x v) u (λ y. IsPlayable p news y rest) b) away (subst (λ (f : Event). PlaysEvent p news entry.thread f u (λ y. IsPlayable p news y rest)) e at_event) in
        record {
          recorded = o.recorded;
          playable = played.1;
          books = subst (λ (b : Bool). ClosedBooks b (done ++ entry ∷ []) w.entries w.silent) (sym played.0)
              (news_left_out entry.thread entry.silent done w.entries w.silent entry.event (ap is_traced e) (subst (λ (b : Bool). OpenBooks b entry.thread entry.silent done w.entries w.silent) played.0 books_at));
        }

    -- an access
    is_access : ends_thread entry.event ≡ false → ((x : ℕ) (v : Val) → entry.event ≡ event.NaRead x v → at_load u entry.thread ≡ true) → PlaysAccess p entry.thread entry.event u (λ y. IsPlayable p news y rest)
    is_access h l = by_form entry.event h l at_event
      where
        by_form : (f : Event) → ends_thread f ≡ false → ((x : ℕ) (v : Val) → f ≡ event.NaRead x v → at_load u entry.thread ≡ true) → PlaysEvent p news entry.thread f u (λ y. IsPlayable p news y rest) → PlaysAccess p entry.thread f u (λ y. IsPlayable p news y rest)
        by_form (event.NaRead x v) h l q = subst (PlaysLoad p news entry.thread (event.NaRead x v) u (λ y. IsPlayable p news y rest)) (l x v refl) q
        by_form (event.NaWrite x v n) h l q = q
        by_form (event.Read y o v to) h l q = q
        by_form (event.Write y o v from to) h l q = q
        by_form (event.Update y o old new read to) h l q = q
        by_form (event.Miss y o old read) h l q = q
        by_form (event.Fence order) h l q = q
        by_form (event.Print v) h l q = q
        by_form (event.Fail c) h l q = q
        by_form (event.FailCompare y read) h l q = q
        by_form event.Finish h l q = absurd (true≢false h)
        by_form event.Spend h l q = absurd (true≢false h)

    room_for : ends_thread entry.event ≡ false → k + 1 ≤ entry.silent + weight entry.event
    room_for h = let one : weight entry.event ≡ 1 = ap (λ (b : Bool). cond b 0 1) h in omega (arith, all, one)

    -- with its own choice
    pub own_goes : (w' : Played) (failed : Bool) → ends_thread entry.event ≡ false → ((x : ℕ) (v : Val) → entry.event ≡ event.NaRead x v → at_load u entry.thread ≡ true) → IsMade p entry.thread (choice_of_event entry.event) w w' failed
        → (failed ≡ false → IsReady p news (done ++ entry ∷ []) rest w') × (failed ≡ true → IsOver p (done ++ entry ∷ rest) w')
    own_goes w' failed h l m = by_kind (is_access h l)
      where
        c : Choice
        c = choice_of_event entry.event

        there : entry.thread < length w.silent
        there = in_silent m.step.able

        by_done : (d : Stepped) → (after_step p u entry.thread (choice_of_event entry.event)).done ≡ d → LeadsOn (HasDone entry.event) (after_step p u entry.thread (choice_of_event entry.event)) (λ y. IsPlayable p news y rest)
            → (failed ≡ false → IsReady p news (done ++ entry ∷ []) rest w') × (failed ≡ true → IsOver p (done ++ entry ∷ rest) w')
        by_done stepped.Silent e (inl q) = absurd (subst HasFailed e q)
        by_done stepped.Silent e (inr q) = absurd (subst (HasDone entry.event) e q.0)
        by_done (stepped.Did f) e (inl q) =
            let fails : is_failure f ≡ true = subst HasFailed e q in
            let r = access_recorded p entry.thread (choice_of_event entry.event) f w w' failed there o.recorded m e (failure_no_spend f fails) in
            (λ g. absurd (false≢true (sym g ∙ r.3 ∙ fails)), λ _. over f w' failed fails (room_for h) r)
        by_done (stepped.Did f) e (inr q) =
            let below : IsEventBelow entry.event f = subst (HasDone entry.event) e q.0 in
            let r = access_recorded p entry.thread (choice_of_event entry.event) f w w' failed there o.recorded m e (sym (spend_same entry.event f below) ∙ goes_no_spend entry.event h) in (
              λ _. record { recorded = r.0; playable = subst (λ (x : State). IsPlayable p news x rest) m.state q.1; books = closed f w' there below r.1 r.2 },
              λ g. over f w' failed (sym r.3 ∙ g) (room_for h) r,
            )

        by_kind : PlaysAccess p entry.thread entry.event u (λ y. IsPlayable p news y rest) → (failed ≡ false → IsReady p news (done ++ entry ∷ []) rest w') × (failed ≡ true → IsOver p (done ++ entry ∷ rest) w')
        by_kind (inl q) = by_done (after_step p u entry.thread (choice_of_event entry.event)).done refl q.leads
        by_kind (inr q) = absurd (q.none m.step)

    -- without its place
    pub other_there : ends_thread entry.event ≡ false → ((x : ℕ) (v : Val) → entry.event ≡ event.NaRead x v → at_load u entry.thread ≡ true) → (IsStep u entry.thread (choice_of_event entry.event) → ⊥) → IsStep u entry.thread (without_place (choice_of_event entry.event))
    other_there h l none = by_kind (is_access h l)
      where
        by_kind : PlaysAccess p entry.thread entry.event u (λ y. IsPlayable p news y rest) → IsStep u entry.thread (without_place (choice_of_event entry.event))
        by_kind (inl q) = absurd (none q.step)
        by_kind (inr q) = q.step

    pub other_fails : (w' : Played) (failed : Bool) → ends_thread entry.event ≡ false → ((x : ℕ) (v : Val) → entry.event ≡ event.NaRead x v → at_load u entry.thread ≡ true) → (IsStep u entry.thread (choice_of_event entry.event) → ⊥)
        → IsMade p entry.thread (without_place (choice_of_event entry.event)) w w' failed → (failed ≡ true) × IsOver p (done ++ entry ∷ rest) w'
    other_fails w' failed h l none m = by_kind (is_access h l)
      where
        there : entry.thread < length w.silent
        there = in_silent m.step.able

        by_done : (d : Stepped) → (after_step p u entry.thread (without_place (choice_of_event entry.event))).done ≡ d → HasFailed d → (failed ≡ true) × IsOver p (done ++ entry ∷ rest) w'
        by_done stepped.Silent e q = absurd q
        by_done (stepped.Did f) e q =
            let r = access_recorded p entry.thread (without_place (choice_of_event entry.event)) f w w' failed there o.recorded m e (failure_no_spend f q) in
            (r.3 ∙ q, over f w' failed q (room_for h) r)

        by_kind : PlaysAccess p entry.thread entry.event u (λ y. IsPlayable p news y rest) → (failed ≡ true) × IsOver p (done ++ entry ∷ rest) w'
        by_kind (inl q) = absurd (none q.step)
        by_kind (inr q) = by_done (after_step p u entry.thread (without_place (choice_of_event entry.event))).done refl q.fails

    -- the thread is at its end
    pub end_there : entry.event ≡ event.Finish → IsStep u entry.thread Plain
    end_there e = (subst (λ (f : Event). PlaysEvent p news entry.thread f u (λ y. IsPlayable p news y rest)) e at_event).step

    pub end_goes : (w' : Played) (failed : Bool) → entry.event ≡ event.Finish → IsMade p entry.thread Plain w w' failed → (failed ≡ false) × IsReady p news (done ++ entry ∷ []) rest w'
    end_goes w' failed e m = by_done (after_step p u entry.thread Plain).done refl played.done
      where
        played : PlaysEnd p entry.thread u (λ y. IsPlayable p news y rest)
        played = subst (λ (f : Event). PlaysEvent p news entry.thread f u (λ y. IsPlayable p news y rest)) e at_event

        there : entry.thread < length w.silent
        there = in_silent m.step.able

        by_done : (d : Stepped) → (after_step p u entry.thread Plain).done ≡ d → HasDone event.Finish d → (failed ≡ false) × IsReady p news (done ++ entry ∷ []) rest w'
        by_done stepped.Silent g q = absurd q
        by_done (stepped.Did f) g q =
            let below : IsEventBelow entry.event f = subst (λ (d : Event). IsEventBelow d f) (sym e) q in
            let r = access_recorded p entry.thread Plain f w w' failed there o.recorded m g (sym (spend_same event.Finish f q)) in (
              r.3 ∙ sym (failure_same event.Finish f q),
              record { recorded = r.0; playable = subst (λ (x : State). IsPlayable p news x rest) m.state played.leads; books = closed f w' there below r.1 r.2 },
            )

-- ---- where all is as before

pub same_recorded : (p : Program) (w w' : Played) → IsSame p w w' → IsRecorded p w → IsRecorded p w'
same_recorded p w w' e r = record {
  state = r.state;
  run = subst (λ (js : List Entry). IsRunTo p js r.state) (sym e.entries) r.run;
  ahead = subst (λ (carry : List ℕ). IsAhead p carry r.state (state_in p w'.machine)) (sym e.silent) (subst (IsAhead p w.silent r.state) (sym e.state) r.ahead);
  threads = ap length e.silent ∙ r.threads;
  program = e.program;
}

pub same_open : (p : Program) (news : Bool) (done : List Entry) (entry : Entry) (rest : List Entry) (k : ℕ) (w w' : Played) → IsSame p w w' → IsOpen p news done entry rest k w → IsOpen p news done entry rest k w'
same_open p news done entry rest k w w' e o = record {
  recorded = same_recorded p w w' e o.recorded;
  playable = subst (λ (x : State). PlaysSteps p entry.thread (entry.silent - k) x (λ u. PlaysEvent p news entry.thread entry.event u (λ s. IsPlayable p news s rest))) (sym e.state) o.playable;
  books = subst (λ (js : List Entry). OpenBooks news entry.thread k done js w'.silent) (sym e.entries) (subst (OpenBooks news entry.thread k done w.entries) (sym e.silent) o.books);
}

pub opens : (p : Program) (news : Bool) (done : List Entry) (entry : Entry) (rest : List Entry) (w : Played) → IsReady p news done (entry ∷ rest) w → IsOpen p news done entry rest 0 w
opens p news done entry rest w r = record {
  recorded = r.recorded;
  playable = let whole : entry.silent ≡ entry.silent - 0 = omega arith in subst (λ (n : ℕ). PlaysSteps p entry.thread n (state_in p w.machine) (λ u. PlaysEvent p news entry.thread entry.event u (λ s. IsPlayable p news s rest))) whole r.playable;
  books = books_open news entry.thread done w.entries w.silent r.books;
}

-- ---- the beginning and the end

pub begins : (p : Program) (news : Bool) (js : List Entry) (h : Held) → state_in p h ≡ initial_state p → IsOf p h → IsPlayable p news (initial_state p) js → IsReady p news [] js (record { machine = h; silent = replicate (length p.threads) 0; entries = [] })
begins p news js h state program playable = record {
  recorded = record {
    state = initial_state p;
    run = record { run = tt; state = refl };
    ahead = subst (IsAhead p (replicate (length p.threads) 0) (initial_state p)) (sym state) (ahead_begins p (replicate (length p.threads) 0) (initial_state p) (get_or-zeros (length p.threads)));
    threads = length-replicate {A = ℕ} (length p.threads) 0;
    program = program;
  };
  playable = subst (λ (x : State). IsPlayable p news x js) (sym state) playable;
  books = books_begin news (replicate (length p.threads) 0) (get_or-zeros (length p.threads));
}

pub ends : (p : Program) (news : Bool) (all : List Entry) (w : Played) → IsReady p news all [] w → IsPlayed p news all w.entries
ends p news all w r = record {
  run = r.recorded.run.run;
  refines = (books_refine news all w.entries w.silent r.books).0;
  exact = λ e. inr (r.books.exact e);
}

pub stops : (p : Program) (news : Bool) (all : List Entry) (w : Played) → IsOver p all w → IsPlayed p news all w.entries
stops p news all w r = record { run = r.run; refines = r.refines; exact = λ e. inl r.fails }

-- ---- the second try

pub again_open : (p : Program) (news : Bool) (done : List Entry) (entry : Entry) (rest : List Entry) (c : Choice) (w w' : Played) → IsNoStep p entry.thread c w w' → IsOpen p news done entry rest entry.silent w → IsOpen p news done entry rest entry.silent w'
again_open p news done entry rest c w w' n o = same_open p news done entry rest entry.silent w w' n.same o

module _ (p : Program) (news : Bool) (done : List Entry) (entry : Entry) (rest : List Entry) (c : Choice) (w w' : Played) (is : c ≡ choice_of_event entry.event) (n : IsNoStep p entry.thread c w w') (o : IsOpen p news done entry rest entry.silent w) (goes : ends_thread entry.event ≡ false)
    (load : (x : ℕ) (v : Val) → entry.event ≡ event.NaRead x v → at_load (state_in p w.machine) entry.thread ≡ true) where
  not_there : IsStep (state_in p w'.machine) entry.thread (choice_of_event entry.event) → ⊥
  not_there h = n.none (subst (IsStep (state_in p w.machine) entry.thread) (sym is) (subst (λ (s : State). IsStep s entry.thread (choice_of_event entry.event)) n.same.state h))

  load_there : (x : ℕ) (v : Val) → entry.event ≡ event.NaRead x v → at_load (state_in p w'.machine) entry.thread ≡ true
  load_there x v e = subst (λ (s : State). at_load s entry.thread ≡ true) (sym n.same.state) (load x v e)

  pub again_there : (d : Choice) → d ≡ without_place c → IsStep (state_in p w'.machine) entry.thread d
  again_there d e =
      subst (IsStep (state_in p w'.machine) entry.thread) (sym (e ∙ ap without_place is))
      (other_there p news done entry rest entry.silent w' (again_open p news done entry rest c w w' n o) refl goes load_there not_there)

  pub again_fails : (d : Choice) → d ≡ without_place c → (w2 : Played) (failed : Bool) → IsMade p entry.thread d w' w2 failed → (failed ≡ true) × IsOver p (done ++ entry ∷ rest) w2
  again_fails d e w2 failed m =
      other_fails p news done entry rest entry.silent w' (again_open p news done entry rest c w w' n o) refl w2 failed goes load_there not_there
      (subst (λ (x : Choice). IsMade p entry.thread x w' w2 failed) (e ∙ ap without_place is) m)

-- an event that is no read, or is one at a load
pub loads_there : (b : Bool) (e : Event) → is_read e ≡ false ⊎ (b ≡ true) → (x : ℕ) (v : Val) → e ≡ event.NaRead x v → b ≡ true
loads_there b e h x v q = ⊎_elim (λ (f : is_read e ≡ false). absurd (true≢false (sym (ap is_read q) ∙ f))) (λ (f : b ≡ true). f) h

-- ---- the journal, cut at an entry

cut_suc : (k : ℕ) (xs : List Entry) (x : Entry) → slice_get xs k ≡ Some x → drop k xs ≡ x ∷ drop (suc k) xs
cut_suc k [] x h = absurd (none-some x h)
cut_suc zero (y ∷ xs) x h = ap (λ (e : Entry). e ∷ xs) (same_Some y x h)
cut_suc (suc k) (y ∷ xs) x h = cut_suc k xs x h

taken_suc : (k : ℕ) (xs : List Entry) (x : Entry) → slice_get xs k ≡ Some x → take (suc k) xs ≡ take k xs ++ x ∷ []
taken_suc k [] x h = absurd (none-some x h)
taken_suc zero (y ∷ xs) x h = ap (λ (e : Entry). e ∷ []) (same_Some y x h)
taken_suc (suc k) (y ∷ xs) x h = ap (λ (es : List Entry). y ∷ es) (taken_suc k xs x h)

pub cut_at : (k : ℕ) (xs : List Entry) (x : Entry) → slice_get xs k ≡ Some x → drop k xs ≡ x ∷ drop (k + 1) xs
cut_at k xs x h = let one : suc k ≡ k + 1 = omega arith in cut_suc k xs x h ∙ ap (λ (n : ℕ). x ∷ drop n xs) one

pub taken_more : (k : ℕ) (xs : List Entry) (x : Entry) → slice_get xs k ≡ Some x → take (k + 1) xs ≡ take k xs ++ x ∷ []
taken_more k xs x h = let one : k + 1 ≡ suc k = omega arith in ap (λ (n : ℕ). take n xs) one ∙ taken_suc k xs x h

pub whole_at : (k : ℕ) (xs : List Entry) (x : Entry) → slice_get xs k ≡ Some x → take k xs ++ (x ∷ drop (k + 1) xs) ≡ xs
whole_at k xs x h = ap (λ (es : List Entry). take k xs ++ es) (sym (cut_at k xs x h)) ∙ take-append-drop k xs

pub ready_at : (p : Program) (news : Bool) (k : ℕ) (xs : List Entry) (x : Entry) (w : Played) → slice_get xs k ≡ Some x → IsReady p news (take k xs) (drop k xs) w → IsReady p news (take k xs) (x ∷ drop (k + 1) xs) w
ready_at p news k xs x w h r = subst (λ (es : List Entry). IsReady p news (take k xs) es w) (cut_at k xs x h) r

pub ready_more : (p : Program) (news : Bool) (k : ℕ) (xs : List Entry) (x : Entry) (w : Played) → slice_get xs k ≡ Some x → IsReady p news (take k xs ++ x ∷ []) (drop (k + 1) xs) w → IsReady p news (take (k + 1) xs) (drop (k + 1) xs) w
ready_more p news k xs x w h r = subst (λ (es : List Entry). IsReady p news es (drop (k + 1) xs) w) (sym (taken_more k xs x h)) r

pub ready_end : (p : Program) (news : Bool) (k : ℕ) (xs : List Entry) (w : Played) → length xs ≤ k → IsReady p news (take k xs) (drop k xs) w → IsReady p news xs [] w
ready_end p news k xs w l r =
    subst (λ (es : List Entry). IsReady p news es [] w) (take_all k xs l) (subst (λ (es : List Entry). IsReady p news (take k xs) es w) (drop_all k xs l) r)
  where
    take_all : (k : ℕ) (xs : List Entry) → length xs ≤ k → take k xs ≡ xs
    take_all zero [] l = refl
    take_all (suc k) [] l = refl
    take_all zero (x ∷ xs) l = absurd (omega arith)
    take_all (suc k) (x ∷ xs) l = ap (λ (es : List Entry). x ∷ es) (take_all k xs (omega arith))

    drop_all : (k : ℕ) (xs : List Entry) → length xs ≤ k → drop k xs ≡ []
    drop_all zero [] l = refl
    drop_all (suc k) [] l = refl
    drop_all zero (x ∷ xs) l = absurd (omega arith)
    drop_all (suc k) (x ∷ xs) l = drop_all k xs (omega arith)
