-- Each node that moves lead to stands for a state of a run.
use Rattle.std.proofs.Common.{◌≡◌, inl, ⊎_elim, ℕ, ℤ, ◌+◌, ◌-◌, ◌<◌, ◌≤◌, Bool, true, false, cond, eqb, ◌&&◌, List, [], ◌∷◌, ◌++◌, length, map, get_or, set, refl, sym, ap, ◌∙◌, subst, arith}
use Rattle.std.specs.Prelude.{◌||◌}
use Rattle.std.proofs.lemmas.Bool.{cases_eq, true≢false, and_right, cond-true, cond-false, eq-eqb, ne_eqb}
use Rattle.std.proofs.lemmas.List.{length-set, length-replicate, get_or-map, get_or-replicate, get_or-set_same, get_or-set_other, set-set, append-nil}
use Rattle.values_undef.specs.Access.{is_failure, is_spend, ends_thread}
use Rattle.values_undef.specs.Journal.{is_finish, last_fails, has_finished, used_steps}
use Rattle.values_undef.specs.declared.access.Access.{Access}
use Rattle.values_undef.specs.declared.access.Access.TheVariants as access
use Rattle.values_undef.specs.declared.access.Choice.{Choice}
use Rattle.values_undef.specs.declared.access.Event.{Event}
use Rattle.values_undef.specs.declared.journal.Entry.{Entry}
use Rattle.il_syntax.specs.declared.program.Program.{Program}
use Rattle.views.specs.ThreadView.{ThreadView, no_view}
use Rattle.message_memory.specs.Memory.{Memory}
use Rattle.message_memory.specs.Step.{IsLegal, IsProper, StepResult, step_result, MemStep}
use Rattle.message_memory.specs.EventLaws.{IsOfKind, spends}
use Rattle.message_memory.proofs.Callers.{step_choice, events_of_kind, failures_fail}
use Rattle.thread_core.specs.declared.next.Next.{Next}
use Rattle.thread_core.specs.declared.next.Next.TheVariants as next
use Rattle.thread_core.specs.Programs.{IsProperProgram, IsProperNext, IsProperAccess}
use Rattle.thread_core.specs.Frames.{Stack, next_of}
use Rattle.thread_core.specs.Alone.{HasSilent, local_after_silent, local_after_event}
use Rattle.thread_core.specs.Steps.{IsProperStack}
use Rattle.thread_core.proofs.Callers.{next_proper}
use Rattle.view_machine.specs.declared.stepped.Stepped.TheVariants as stepped
use Rattle.view_machine.specs.State.{State, StepTaken, local_in, with_local, view_in, next_in, has_ended, idle, IsRunning, step_by, after_step, initial_state}
use Rattle.view_machine.specs.Runs.{after_silent, AreSilent, MakesEventBy, MakesEvent, after_event_by, after_event, IsEntry, after_entry, IsRunTo}
use Rattle.view_machine.specs.Laws.{IsReached}
use Rattle.view_machine.proofs.Callers.{silent_steps_local, going_with, access_made, proper_in, silent_reached, all_get, states_whole, run_goes_on}
use Rattle.run_choices.specs.Complete.{has_spent}
use Rattle.run_choices.proofs.Callers.{spent_more, fails_more}
use Rattle.memory_likeness.specs.Likeness.{without_stamps}
use Rattle.memory_likeness.specs.Answering.{made_room, view_with_room, choice_behind}
use Rattle.outcome_nodes.specs.Nodes.{Node, local_of, used_of, view_at, printed_of, told_of, silent_steps, settled, settled_use, first_node, prints, Asks, IsMove, result_at, after_move, printed_by, told_by}
use Rattle.outcome_nodes.specs.Reached.{begins, moves, IsRunOf, NodesAreOfRuns, IsFailedRun, FailuresAreOfRuns}
use Rattle.outcome_nodes.proofs.Appending.{finished_more, failures_print_nothing, no_end, unended}
use Rattle.outcome_nodes.proofs.Following.{used_here, used_other, printed_here, printed_other, told_here, told_other, settled_same, use_same}
use Rattle.outcome_nodes.proofs.Opening.{first_at}
use Rattle.outcome_nodes.proofs.Rooms.{has_steps, silenced, legal_silenced, AreSilencedResults, result_silenced, RoomIsSilenced, room_silenced, IsPrepared, prepared}
use Rattle.memory_likeness.proofs.Callers.{map_each}

-- ---- an access as an entry

abbrev pub entry_of_access : State → ℕ → ℕ → Access → Choice → Entry
entry_of_access u i k a c = record { thread = i; silent = k; event = (step_result u.memory (view_in u i) i a c).event }

abbrev pub state_of_access : Program → State → ℕ → ℕ → Access → Choice → State
state_of_access p u i k a c =
    let o = step_result u.memory (view_in u i) i a c in
    record {
      locals = set u.locals i (local_after_event (local_after_silent p k (local_in u i)) o.event);
      views = set u.views i o.view;
      ended = set u.ended i (is_finish o.event);
      memory = o.memory;
    }

pub record IsAccessEntry (p : Program) (u : State) (i k : ℕ) (a : Access) (c : Choice) : Type 0 where
  pub entry : IsEntry p u (entry_of_access u i k a c)
  pub state : after_entry p u (entry_of_access u i k a c) ≡ state_of_access p u i k a c

pub access_entry : (p : Program) (u : State) (i k : ℕ) (a : Access) (c : Choice) → IsRunning u i → HasSilent p k (local_in u i) → next_of (local_after_silent p k (local_in u i)) ≡ next.Access a → IsLegal u.memory (view_in u i) a c
    → is_spend (step_result u.memory (view_in u i) i a c).event ≡ false → IsAccessEntry p u i k a c
access_entry p u i k a c g h asks legal going = record {
  entry = record {
    silent = silent.0;
    event = subst (λ (t : State). MakesEvent p t i o.event) (sym silent.1) (subst (MakesEventBy p t i o.event) (sym going) made.0);
  };
  state = ap (λ (t : State). after_event p t i o.event) silent.1 ∙ ap (λ (b : Bool). after_event_by p t i o.event b) going ∙ made.1;
}
  where
    o : StepResult
    o = step_result u.memory (view_in u i) i a c

    l : Stack
    l = local_after_silent p k (local_in u i)

    t : State
    t = with_local u i (local_after_silent p k (local_in u i))

    silent : AreSilent p i k u × (after_silent p i k u ≡ with_local u i (local_after_silent p k (local_in u i)))
    silent = silent_steps_local p i k u g h

    here : local_in t i ≡ l
    here = get_or-set_same u.locals i l idle g.there

    there : next_in t i ≡ next.Access a
    there = ap (λ (x : Stack). next_of x) here ∙ asks

    step : MemStep u.memory (view_in u i) i a c o.event o.memory o.view
    step = record { legal = legal; event = refl; memory = refl; view = refl }

    taken : List Stack → StepTaken
    taken locals = record { state = record { locals = locals; views = set u.views i o.view; ended = set u.ended i (is_finish o.event); memory = o.memory }; done = stepped.Did o.event }

    done : after_step p t i c ≡ record { state = state_of_access p u i k a c; done = stepped.Did o.event }
    done =
        ap (λ (n : Next). step_by p t i c n) there
        ∙ ap (λ (x : Stack). taken (set t.locals i (local_after_event x o.event))) here
        ∙ ap (λ (x : List Stack). taken x) (set-set u.locals i l (local_after_event l o.event))

    made : MakesEventBy p t i o.event false × (after_event_by p t i o.event false ≡ state_of_access p u i k a c)
    made = access_made p t (state_of_access p u i k a c) i c o.event a (going_with u i l g) there legal (step_choice step) done

-- ---- a move from a node is an entry of its run

module _ (p : Program) (steps : ℕ) (n : Node) (entries : List Entry) (s : State) (ok : IsProperProgram p) (R : IsRunOf p steps entries s n) (i : ℕ) (a : Access) (b : ℕ) (l : i < length p.threads) (asks : Asks steps n i a) where
  reached : IsReached p s
  reached = states_whole p entries s ok R.run

  abbrev k : ℕ
  k = silent_steps p (steps - used_steps entries i) (local_in s i)

  abbrev loc : Stack
  loc = settled p steps (used_steps entries i) (local_in s i)

  running_s : IsRunning s i
  running_s = record { there = omega (arith, l, reached.threads); going = R.going i l; running = R.running }

  asks_s : next_of loc ≡ next.Access a
  asks_s = ap (λ (x : Stack). next_of x) (sym (R.locals i l)) ∙ asks.next

  proper_access : IsProperAccess p a
  proper_access =
      let r = silent_steps_local p i (silent_steps p (steps - used_steps entries i) (local_in s i)) s running_s (has_steps p (steps - used_steps entries i) (local_in s i)) in
      let t = silent_reached p i (silent_steps p (steps - used_steps entries i) (local_in s i)) s ok reached r.0 in
      let here : local_in (after_silent p i (silent_steps p (steps - used_steps entries i) (local_in s i)) s) i ≡ loc = ap (λ (u : State). local_in u i) r.1 ∙ get_or-set_same s.locals i loc idle running_s.there in
      let stack : IsProperStack p loc = subst (IsProperStack p) here (all_get (IsProperStack p) (after_silent p i (silent_steps p (steps - used_steps entries i) (local_in s i)) s).locals i idle (omega (arith, t.threads, l)) t.stacks) in
      subst (IsProperNext p) asks_s (next_proper p loc stack)

  proper : IsProper s.memory a
  proper = proper_in p s.memory a reached.na reached.atomic proper_access

  room : (entries' : List Entry) × (u : State) × IsPrepared p entries s a b entries' u
  room = prepared p entries s a b ok R.run proper reached.atomic

  module _ (entries' : List Entry) (u : State) (P : IsPrepared p entries s a b entries' u) where
    abbrev c : Choice
    c = choice_behind s.memory a b

    abbrev o : StepResult
    o = step_result u.memory (view_in u i) i a c

    abbrev r : StepResult
    r = result_at n i a b

    view_s : view_at n i ≡ view_in s i
    view_s = ap (λ (x : List ThreadView). get_or x i no_view) R.views

    view_u : view_in u i ≡ view_with_room s.memory (view_in s i) a b
    view_u = ap (λ (x : List ThreadView). get_or x i no_view) P.views ∙ get_or-map (λ v. view_with_room s.memory v a b) s.views i no_view no_view (omega (arith, reached.views, reached.threads, l))

    local_u : (j : ℕ) → local_in u j ≡ local_in s j
    local_u j = ap (λ (x : List Stack). get_or x j idle) P.locals

    silent : RoomIsSilenced s.memory a b
    silent = room_silenced s.memory a b

    -- what is said of the node is said of u
    told : (X : Memory → ThreadView → Choice → Type 0) → X (made_room n.memory a b) (view_with_room n.memory (view_at n i) a b) (choice_behind n.memory a b) → X (silenced u.memory) (view_in u i) c
    told X q =
        let q1 : X (made_room (silenced s.memory) a b) (view_with_room (silenced s.memory) (view_at n i) a b) (choice_behind (silenced s.memory) a b) = subst (λ (m : Memory). X (made_room m a b) (view_with_room m (view_at n i) a b) (choice_behind m a b)) R.memory q in
        let q2 : X (silenced (made_room s.memory a b)) (view_with_room (silenced s.memory) (view_at n i) a b) (choice_behind (silenced s.memory) a b) = subst (λ (m : Memory). X m (view_with_room (silenced s.memory) (view_at n i) a b) (choice_behind (silenced s.memory) a b)) silent.memory q1 in
        let q3 : X (silenced (made_room s.memory a b)) (view_with_room s.memory (view_at n i) a b) (choice_behind (silenced s.memory) a b) = subst (λ (v : ThreadView). X (silenced (made_room s.memory a b)) v (choice_behind (silenced s.memory) a b)) (silent.view (view_at n i)) q2 in
        let q4 : X (silenced (made_room s.memory a b)) (view_with_room s.memory (view_at n i) a b) c = subst (λ (d : Choice). X (silenced (made_room s.memory a b)) (view_with_room s.memory (view_at n i) a b) d) silent.choice q3 in
        let q5 : X (silenced (made_room s.memory a b)) (view_in u i) c = subst (λ (v : ThreadView). X (silenced (made_room s.memory a b)) v c) (ap (λ (v : ThreadView). view_with_room s.memory v a b) view_s ∙ sym view_u) q4 in
        subst (λ (m : Memory). X (silenced m) (view_in u i) c) (sym P.memory) q5

    -- the node's memory, view and choice after room was made, and those of u
    pub are_told : (silenced u.memory ≡ made_room n.memory a b) × (view_in u i ≡ view_with_room n.memory (view_at n i) a b) × (choice_behind s.memory a b ≡ choice_behind n.memory a b)
    are_told =
        told (λ m v d. (m ≡ made_room n.memory a b) × (v ≡ view_with_room n.memory (view_at n i) a b) × (d ≡ choice_behind n.memory a b)) (refl, refl, refl)

    module _ (move : IsMove n i a b) where
      pub legal : IsLegal u.memory (view_in u i) a c
      legal = legal_silenced u.memory (view_in u i) a c (told (λ m v d. IsLegal m v a d) move.legal)

      pub results : AreSilencedResults o r
      results = subst (λ (x : StepResult). AreSilencedResults o x) (sym (told (λ m v d. r ≡ step_result m v i a d) refl)) (result_silenced u.memory (view_in u i) i a c legal.admits)

      running_u : IsRunning u i
      running_u = record {
        there = omega (arith, ap {B = ℕ} length P.locals, running_s.there);
        going = ap (λ (x : List Bool). get_or x i true) P.ended ∙ running_s.going;
        running = legal.running;
      }

      silent_u : HasSilent p k (local_in u i)
      silent_u = subst (HasSilent p k) (sym (local_u i)) (has_steps p (steps - used_steps entries i) (local_in s i))

      loc_u : local_after_silent p k (local_in u i) ≡ loc
      loc_u = ap (λ (x : Stack). local_after_silent p k x) (local_u i)

      made : MemStep u.memory (view_in u i) i a c o.event o.memory o.view
      made = record { legal = legal; event = refl; memory = refl; view = refl }

      kind : IsOfKind a o.event
      kind = events_of_kind u.memory o.memory (view_in u i) o.view i a c o.event made

      no_spend : (x : Access) → IsProperAccess p x → spends x ≡ false
      no_spend (access.NaRead x) q = refl
      no_spend (access.NaWrite x v) q = refl
      no_spend (access.Read y z) q = refl
      no_spend (access.Write y z v) q = refl
      no_spend (access.Update y z w) q = refl
      no_spend (access.Fence z) q = refl
      no_spend (access.Print v) q = refl
      no_spend (access.Fail z) q = refl
      no_spend access.Finish q = refl
      no_spend access.Spend q = absurd q

      ends_not : ends_thread o.event ≡ false
      ends_not = kind.ends ∙ no_end a asks.unfinished (no_spend a proper_access)

      done : IsAccessEntry p u i k a c
      done = access_entry p u i k a c running_u silent_u (ap (λ (x : Stack). next_of x) loc_u ∙ asks_s) legal (unended o.event ends_not).1

      abbrev e : Entry
      e = entry_of_access u i k a c

      abbrev x : State
      x = state_of_access p u i k a c

      pub run_after : IsRunTo p (entries' ++ e ∷ []) x
      run_after = subst (IsRunTo p (entries' ++ e ∷ [])) done.state (run_goes_on p entries' u e P.run done.entry)

      use_now : used_of n i ≡ used_steps entries i + k
      use_now = R.used i l

      pub used_after : used_steps (entries' ++ e ∷ []) i ≡ used_of n i + 1
      used_after = omega (arith, used_here entries' e, P.used i, (unended o.event ends_not).2, use_now)

      local_next : local_after_event (local_of n i) r.event ≡ local_in x i
      local_next =
          ap (λ (q : Stack). local_after_event q r.event) (R.locals i l ∙ sym loc_u) ∙ ap (λ (q : Event). local_after_event (local_after_silent p k (local_in u i)) q) results.event
          ∙ sym (get_or-set_same u.locals i (local_after_event (local_after_silent p k (local_in u i)) o.event) idle running_u.there)

      local_x : (j : ℕ) → (j ≡ i → ⊥) → local_in x j ≡ local_in s j
      local_x j q = get_or-set_other u.locals i j (local_after_event (local_after_silent p k (local_in u i)) o.event) idle q ∙ local_u j

      used_x : (j : ℕ) → (j ≡ i → ⊥) → used_steps (entries' ++ e ∷ []) j ≡ used_steps entries j
      used_x j q = used_other entries' e j q ∙ P.used j

      pub printed_after : (j : ℕ) → j < length p.threads → printed_by (entries' ++ e ∷ []) j ≡ cond (eqb j i) (printed_of n i ++ prints r.event) (printed_of n j)
      printed_after j h =
          ⊎_elim
          (λ (q : j ≡ i).
          subst (λ (d : ℕ). printed_by (entries' ++ e ∷ []) d ≡ cond (eqb d i) (printed_of n i ++ prints r.event) (printed_of n d)) (sym q)
          (printed_here entries' e ∙ ap (λ (y : List ℤ). y ++ prints o.event) (P.printed i ∙ sym (R.printed i l)) ∙ ap (λ (y : Event). printed_of n i ++ prints y) (sym results.event)
          ∙ sym (cond-true (eqb i i) (printed_of n i ++ prints r.event) (printed_of n i) (eq-eqb i i refl))))
          (λ (q : j ≡ i → ⊥). printed_other entries' e j q ∙ P.printed j ∙ sym (R.printed j h) ∙ sym (cond-false (eqb j i) (printed_of n i ++ prints r.event) (printed_of n j) (ne_eqb j i q)))
          (cases_eq j i)

      none_finished : (j : ℕ) → has_finished (entries' ++ e ∷ []) j ≡ false
      none_finished j = finished_more entries' e j ∙ ap (λ (q : Bool). q || (eqb i j && is_finish o.event)) (P.finished j ∙ R.unfinished j) ∙ and_right (eqb i j) (is_finish o.event) (unended o.event ends_not).0

      none_spent : (j : ℕ) → has_spent (entries' ++ e ∷ []) j ≡ false
      none_spent j = spent_more entries' e j ∙ ap (λ (q : Bool). q || (eqb i j && is_spend o.event)) (P.spent j ∙ R.unspent j) ∙ and_right (eqb i j) (is_spend o.event) (unended o.event ends_not).1

      within_after : (j : ℕ) → j < length p.threads → used_steps (entries' ++ e ∷ []) j ≤ steps
      within_after j h = ⊎_elim (λ (q : j ≡ i). omega (arith, ap (used_steps (entries' ++ e ∷ [])) q, used_after, asks.left)) (λ (q : j ≡ i → ⊥). omega (arith, used_x j q, R.within j h)) (cases_eq j i)

      pub failed : o.memory.failed ≡ is_failure o.event
      failed = failures_fail u.memory o.memory (view_in u i) o.view i a c o.event made

      pub moved_to : r.memory.failed ≡ false → IsRunOf p steps (entries' ++ e ∷ []) x (after_move p steps n i a b)
      moved_to goes = record {
        run = run_after;
        many_locals = length-set n.locals i _ ∙ R.many_locals;
        many_used = length-set n.used i _ ∙ R.many_used;
        many_printed = length-set n.printed i _ ∙ R.many_printed;
        locals = λ j h.
            ⊎_elim
            (λ (q : j ≡ i).
            subst (λ (d : ℕ). local_of (after_move p steps n i a b) d ≡ settled p steps (used_steps (entries' ++ e ∷ []) d) (local_in x d)) (sym q)
            (get_or-set_same n.locals i _ idle (omega (arith, R.many_locals, l)) ∙ settled_same p steps _ _ _ _ (sym used_after) local_next))
            (λ (q : j ≡ i → ⊥). get_or-set_other n.locals i j _ idle q ∙ R.locals j h ∙ settled_same p steps _ _ _ _ (sym (used_x j q)) (sym (local_x j q)))
            (cases_eq j i);
        used = λ j h.
            ⊎_elim
            (λ (q : j ≡ i).
            subst (λ (d : ℕ). used_of (after_move p steps n i a b) d ≡ settled_use p steps (used_steps (entries' ++ e ∷ []) d) (local_in x d)) (sym q)
            (get_or-set_same n.used i _ 0 (omega (arith, R.many_used, l)) ∙ use_same p steps _ _ _ _ (sym used_after) local_next))
            (λ (q : j ≡ i → ⊥). get_or-set_other n.used i j _ 0 q ∙ R.used j h ∙ use_same p steps _ _ _ _ (sym (used_x j q)) (sym (local_x j q)))
            (cases_eq j i);
        views =
            ap (λ (y : List ThreadView). set (map (λ v. view_with_room n.memory v a b) y) i r.view) R.views
            ∙ ap (λ (y : List ThreadView). set y i r.view) (map_each (λ v. view_with_room n.memory v a b) (λ v. view_with_room s.memory v a b) (λ v. ap (λ (m : Memory). view_with_room m v a b) R.memory ∙ silent.view v) s.views ∙ sym P.views)
            ∙ ap (set u.views i) results.view;
        memory = results.memory;
        running = sym (ap (λ (m : Memory). m.failed) results.memory) ∙ goes;
        printed = λ j h.
            ⊎_elim
            (λ (q : j ≡ i).
            subst (λ (d : ℕ). printed_of (after_move p steps n i a b) d ≡ printed_by (entries' ++ e ∷ []) d) (sym q)
            (get_or-set_same n.printed i (printed_of n i ++ prints r.event) [] (omega (arith, R.many_printed, l)) ∙ sym (printed_after i l ∙ cond-true (eqb i i) (printed_of n i ++ prints r.event) (printed_of n i) (eq-eqb i i refl))))
            (λ (q : j ≡ i → ⊥).
            get_or-set_other n.printed i j (printed_of n i ++ prints r.event) [] q ∙ sym (printed_after j h ∙ cond-false (eqb j i) (printed_of n i ++ prints r.event) (printed_of n j) (ne_eqb j i q)))
            (cases_eq j i);
        many_told = length-set n.told i _ ∙ R.many_told;
        told = λ j h.
            ⊎_elim
            (λ (q : j ≡ i).
            subst (λ (d : ℕ). told_of (after_move p steps n i a b) d ≡ told_by (entries' ++ e ∷ []) d) (sym q)
            (get_or-set_same n.told i (told_of n i ++ without_stamps r.event ∷ []) [] (omega (arith, R.many_told, l))
            ∙ ap (λ (y : List Event). y ++ without_stamps r.event ∷ []) (R.told i l ∙ sym (P.told i)) ∙ ap (λ (y : Event). told_by entries' i ++ without_stamps y ∷ []) results.event ∙ sym (told_here entries' e)))
            (λ (q : j ≡ i → ⊥).
            get_or-set_other n.told i j (told_of n i ++ without_stamps r.event ∷ []) [] q ∙ R.told j h ∙ sym (P.told j) ∙ sym (told_other entries' e j q))
            (cases_eq j i);
        within = within_after;
        going = λ j h.
            ⊎_elim
            (λ (q : j ≡ i). subst (λ (d : ℕ). has_ended x d ≡ false) (sym q) (get_or-set_same u.ended i (is_finish o.event) true (omega (arith, ap {B = ℕ} length P.ended, reached.ended, running_s.there)) ∙ (unended o.event ends_not).0))
            (λ (q : j ≡ i → ⊥). get_or-set_other u.ended i j (is_finish o.event) true q ∙ ap (λ (y : List Bool). get_or y j true) P.ended ∙ R.going j h)
            (cases_eq j i);
        unfinished = none_finished;
        unspent = none_spent;
        goes = fails_more entries' e ∙ sym failed ∙ sym (ap (λ (m : Memory). m.failed) results.memory) ∙ goes;
      }

      pub fails_there : r.memory.failed ≡ true → IsFailedRun p steps n (entries' ++ e ∷ [])
      fails_there goes = record {
        run = run_after.run;
        complete = record { within = within_after; spent = λ j h q. absurd (true≢false (sym q ∙ none_spent j)); whole = inl failing };
        fails = failing;
        many_printed = R.many_printed;
        printed = λ j h.
            sym (printed_after j h
            ∙ ⊎_elim
            (λ (q : j ≡ i).
            cond-true (eqb j i) (printed_of n i ++ prints r.event) (printed_of n j) (eq-eqb j i q)
            ∙ ap (λ (y : Event). printed_of n i ++ prints y) results.event
            ∙ ap (λ (y : List ℤ). printed_of n i ++ y) (failures_print_nothing o.event fails) ∙ append-nil (printed_of n i) ∙ ap (printed_of n) (sym q))
            (λ (q : j ≡ i → ⊥). cond-false (eqb j i) (printed_of n i ++ prints r.event) (printed_of n j) (ne_eqb j i q))
            (cases_eq j i));
      }
        where
          fails : is_failure o.event ≡ true
          fails = sym failed ∙ sym (ap (λ (m : Memory). m.failed) results.memory) ∙ goes

          failing : last_fails (entries' ++ e ∷ []) ≡ true
          failing = fails_more entries' e ∙ fails

-- ---- all nodes

pub first_of : (p : Program) (steps : ℕ) → IsRunOf p steps [] (initial_state p) (first_node p steps)
first_of p steps =
    let at = first_at p steps in
    record {
      run = record { run = tt; state = refl };
      many_locals = at.many_locals;
      many_used = at.many_used;
      many_printed = at.many_printed;
      locals = at.locals;
      used = at.used;
      views = refl;
      memory = refl;
      running = refl;
      printed = at.printed;
      many_told = length-replicate {A = List Event} (length p.threads) [];
      told = λ j l. get_or-replicate {A = List Event} (length p.threads) j [] [] l;
      within = λ j h. omega arith;
      going = λ j h. get_or-replicate (length p.threads) j false true h;
      unfinished = λ j. refl;
      unspent = λ j. refl;
      goes = refl;
    }

pub nodes_of_runs : NodesAreOfRuns
nodes_of_runs p steps n ok (begins) = ([], initial_state p, first_of p steps)
nodes_of_runs p steps n ok (moves m i a b before l asks move goes) =
    let q = nodes_of_runs p steps m ok before in
    let w = room p steps m q.0 q.1 ok q.2 i a b l asks in
    (_, _, moved_to p steps m q.0 q.1 ok q.2 i a b l asks w.0 w.1 w.2 move goes)

pub failures_of_runs : FailuresAreOfRuns
failures_of_runs p steps n i a b ok before l asks move goes =
    let q = nodes_of_runs p steps n ok before in
    let w = room p steps n q.0 q.1 ok q.2 i a b l asks in
    (_, fails_there p steps n q.0 q.1 ok q.2 i a b l asks w.0 w.1 w.2 move goes)
