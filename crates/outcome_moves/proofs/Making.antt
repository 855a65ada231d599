-- An access that is tried where a run ends.
use Rattle.std.proofs.Common.{◌≡◌, ◌⊎◌, inl, inr, ⊎_elim, ℕ, ◌+◌, ◌-◌, ◌<◌, ◌≤◌, Bool, true, false, cond, eqb, ◌&&◌, List, [], ◌∷◌, ◌++◌, length, map, get_or, None, refl, sym, ap, ◌∙◌, subst, arith}
use Rattle.std.specs.Prelude.{◌||◌, IsSome}
use Rattle.std.specs.List.{AllByRecursion}
use Rattle.std.proofs.lemmas.Bool.{cases_Bool, cond-true, cond-false, cond_both, eq-eqb, true≢false, false≢true, or_parts}
use Rattle.std.proofs.lemmas.List.{length-map, length-append, get_or-map, get_or-set_same}
use Rattle.values_undef.specs.Access.{leaves_choice, is_failure, is_spend}
use Rattle.values_undef.specs.declared.access.Access.{Access}
use Rattle.values_undef.specs.declared.access.Choice.{Choice}
use Rattle.values_undef.specs.declared.access.Choice.TheVariants.{Plain}
use Rattle.values_undef.specs.declared.access.Event.{Event}
use Rattle.values_undef.specs.declared.access.Event.TheVariants as event
use Rattle.values_undef.specs.declared.journal.Entry.{Entry}
use Rattle.il_syntax.specs.declared.program.Program.{Program}
use Rattle.views.specs.ThreadView.{ThreadView, no_view}
use Rattle.message_memory.specs.Memory.{Memory, messages, message_at}
use Rattle.message_memory.specs.Candidates.{location_of}
use Rattle.message_memory.specs.Step.{IsLegal, IsProper, step_result}
use Rattle.thread_core.specs.declared.next.Next.{Next}
use Rattle.thread_core.specs.declared.next.Next.TheVariants as next
use Rattle.thread_core.specs.Programs.{IsProperProgram, IsProperAccess}
use Rattle.view_machine.specs.declared.stepped.Stepped.{Stepped}
use Rattle.view_machine.specs.declared.stepped.Stepped.TheVariants as stepped
use Rattle.view_machine.specs.State.{State, StepTaken, view_in, next_in, step_by, after_step}
use Rattle.view_machine.specs.Laws.{IsReached}
use Rattle.view_machine.proofs.Callers.{proper_in, states_whole}
use Rattle.run_choices.specs.Complete.{has_spent}
use Rattle.memory_likeness.specs.Moved.{opened}
use Rattle.memory_likeness.specs.Answering.{puts_in, made_room, view_with_room, choice_behind}
use Rattle.outcome_nodes.specs.Moved.{moved_entry}
use Rattle.outcome_nodes.specs.Nodes.{Node, Asks, IsMove}
use Rattle.outcome_nodes.specs.Standing.{node_of, IsNodeRun, GoesOnBy, FailsBy}
use Rattle.outcome_nodes.proofs.Callers.{IsPrepared, prepared_moved, prepared_same, entry_of_access, is_legal, is_move, goes_on, fails_in}
use Rattle.outcome_moves.specs.Room.{largest_stamp, AreSmall}
use Rattle.outcome_moves.specs.Behind.{event_behind, choice_close}
use Rattle.outcome_moves.specs.Moves.{last_state, silent_there}
use Rattle.outcome_moves.proofs.Small.{room_small, made_small, one_small}
use Rattle.outcome_moves.proofs.Behind.{legal_close, legal_opened, event_same, plain_legal, plain_choice, plain_puts}

-- ---- no thread ends for want of steps

and_false : (b c : Bool) → b ≡ true → (b && c) ≡ false → c ≡ false
and_false true c e q = q
and_false false c e q = absurd (false≢true e)

pub none_spends : (entries : List Entry) → ((j : ℕ) → has_spent entries j ≡ false) → AllByRecursion (λ e. is_spend e.event ≡ false) entries
none_spends [] h = tt
none_spends (e ∷ entries) h = (
  and_false (eqb e.thread e.thread) (is_spend e.event) (eq-eqb e.thread e.thread refl) (or_parts _ _ (h e.thread)).0,
  none_spends entries (λ j. (or_parts _ _ (h j)).1),
)

-- ---- the machine and the state

pub event_there : (u t : State) (i : ℕ) (a : Access) (c : Choice) → t.memory ≡ u.memory → t.views ≡ u.views → (step_result t.memory (view_in t i) i a c).event ≡ (step_result u.memory (view_in u i) i a c).event
event_there u t i a c em ev =
    ap (λ (m : Memory). (step_result m (view_in t i) i a c).event) em ∙ ap (λ (w : List ThreadView). (step_result u.memory (get_or w i no_view) i a c).event) ev

pub legal_there : (u : State) (i : ℕ) (a : Access) (c : Choice) (m : Memory) (views : List ThreadView) → m ≡ u.memory → views ≡ u.views → IsLegal m (get_or views i no_view) a c → IsLegal u.memory (view_in u i) a c
legal_there u i a c m views em ev h =
    subst (λ (x : Memory). IsLegal x (view_in u i) a c) em (subst (λ (w : List ThreadView). IsLegal m (get_or w i no_view) a c) ev h)

pub far_there : (u : State) (i : ℕ) (a : Access) (c : Choice) (m : Memory) (views : List ThreadView) → m ≡ u.memory → views ≡ u.views → IsLegal u.memory (view_in u i) a c → IsLegal m (get_or views i no_view) a c
far_there u i a c m views em ev h = subst (λ (w : List ThreadView). IsLegal m (get_or w i no_view) a c) (sym ev) (subst (λ (x : Memory). IsLegal x (view_in u i) a c) (sym em) h)

-- ---- the event of a step

abbrev event_done : Stepped → Event
event_done stepped.Silent = event.Spend
event_done (stepped.Did e) = e

pub event_made : (p : Program) (t u : State) (i : ℕ) (c : Choice) (e : Event) (a : Access) → next_in t i ≡ next.Access a → after_step p t i c ≡ record { state = u; done = stepped.Did e } → e ≡ (step_result t.memory (view_in t i) i a c).event
event_made p t u i c e a asks made = sym (ap event_done (ap (λ (n : Next). (step_by p t i c n).done) (sym asks) ∙ ap (λ (x : StepTaken). x.done) made))

-- ---- the run after room was made

module _ (p : Program) (steps : ℕ) (entries : List Entry) (i : ℕ) (a : Access) (b : ℕ) (ok : IsProperProgram p) (run : IsNodeRun p steps entries) (l : i < length p.threads) (asks : Asks steps (node_of p steps entries) i a) (named : IsProperAccess p a) where
  abbrev s : State
  s = last_state p entries

  abbrev n : Node
  n = node_of p steps entries

  reached : IsReached p s
  reached = states_whole p entries s ok run.stands.run

  pub proper_there : IsProper (last_state p entries).memory a
  proper_there = proper_in p s.memory a reached.na reached.atomic named

  -- no message ends at b
  pub tried_absent : leaves_choice a ≡ true → message_at b (messages (last_state p entries).memory (location_of a)) ≡ None → IsMove (node_of p steps entries) i a b → ⊥
  tried_absent h none move = false≢true (subst IsSome none (subst (λ (m : Memory). IsSome (message_at b (messages m (location_of a)))) run.stands.memory (move.found h)))

  module _ (puts : Bool) (after : List Entry) (told : puts ≡ puts_in (last_state p entries).memory a b) (made : after ≡ cond puts (map (moved_entry (location_of a) (opened b)) entries) entries) where
    abbrev pub u : State
    u = last_state p after

    pub prepared_there : IsPrepared p entries (last_state p entries) a b after (last_state p after)
    prepared_there =
        ⊎_elim
        (λ (h : puts ≡ true).
        let q = prepared_moved p entries s a b ok run.stands.run proper_there reached.atomic (sym told ∙ h) in
        back (map (moved_entry (location_of a) (opened b)) entries) _ (made ∙ cond-true puts _ _ h) q)
        (λ (h : puts ≡ false). back entries _ (made ∙ cond-false puts _ _ h) (prepared_same p entries s a b run.stands.run (sym told ∙ h)))
        (cases_Bool puts)
      where
        back : (xs : List Entry) (t : State) → after ≡ xs → IsPrepared p entries s a b xs t → IsPrepared p entries s a b after (last_state p after)
        back xs t e q =
            subst (λ (ys : List Entry). IsPrepared p entries s a b ys (last_state p ys)) (sym e)
            (subst (IsPrepared p entries s a b xs) (sym q.run.state) q)

    pub after_few : length after ≡ length entries
    after_few =
        ap (λ (xs : List Entry). length xs) made
        ∙ cond_both puts (map (moved_entry (location_of a) (opened b)) entries) entries (λ (xs : List Entry). length xs ≡ length entries) (λ _. length-map entries (moved_entry (location_of a) (opened b))) (λ _. refl)

    view_then : view_in (last_state p after) i ≡ view_with_room (last_state p entries).memory (view_in (last_state p entries) i) a b
    view_then =
        ap (λ (w : List ThreadView). get_or w i no_view) prepared_there.views
        ∙ get_or-map (λ v. view_with_room (last_state p entries).memory v a b) s.views i no_view no_view (omega (arith, l, reached.threads, reached.views))

    opened_then : IsLegal (last_state p entries).memory (view_in (last_state p entries) i) a (choice_close (last_state p entries).memory a b) → IsLegal (last_state p after).memory (view_in (last_state p after) i) a (choice_behind (last_state p entries).memory a b)
    opened_then h =
        subst (λ (m : Memory). IsLegal m (view_in (last_state p after) i) a (choice_behind s.memory a b)) (sym prepared_there.memory)
        (subst (λ (v : ThreadView). IsLegal (made_room s.memory a b) v a (choice_behind s.memory a b)) (sym view_then) (legal_opened s.memory (view_in s i) a b proper_there h))

    event_then : leaves_choice a ≡ true → (step_result (last_state p after).memory (view_in (last_state p after) i) i a (choice_behind (last_state p entries).memory a b)).event ≡ event_behind (last_state p entries).memory a b
    event_then h =
        ap (λ (m : Memory). (step_result m (view_in (last_state p after) i) i a (choice_behind s.memory a b)).event) prepared_there.memory
        ∙ event_same s.memory (view_in (last_state p after) i) i a b proper_there h

    pub tried_far : (c : Choice) → c ≡ choice_close (last_state p entries).memory a b → (IsLegal (last_state p entries).memory (view_in (last_state p entries) i) a c → ⊥) → IsMove (node_of p steps entries) i a b → ⊥
    tried_far c e never move =
        never (subst (IsLegal s.memory (view_in s i) a) (sym e) (legal_close s.memory (view_in s i) a b proper_there
        (subst (λ (v : ThreadView). IsLegal (made_room s.memory a b) v a (choice_behind s.memory a b)) view_then
        (subst (λ (m : Memory). IsLegal m (view_in (last_state p after) i) a (choice_behind s.memory a b)) prepared_there.memory
        (is_legal p steps n entries s ok run.reached run.stands i a b l asks after u prepared_there move)))))

    pub tried_some : (c : Choice) (k : ℕ) (x : Event) (list : List Entry) (f : Bool) → c ≡ choice_behind (last_state p entries).memory a b → k ≡ silent_there p steps entries i
        → (leaves_choice a ≡ true → IsSome (message_at b (messages (last_state p entries).memory (location_of a))))
        → IsLegal (last_state p after).memory (view_in (last_state p after) i) a c → x ≡ (step_result (last_state p after).memory (view_in (last_state p after) i) i a c).event
        → list ≡ after ++ record { thread = i; silent = k; event = x } ∷ [] → f ≡ is_failure x
        → IsMove (node_of p steps entries) i a b × (((f ≡ true) × FailsBy p steps (node_of p steps entries) i a b list) ⊎ ((f ≡ false) × GoesOnBy p steps (node_of p steps entries) i a b list))
    tried_some c k x list f e q found legal made_event told_list fails =
        let move : IsMove n i a b = is_move p steps n entries s ok run.reached run.stands i a b l asks after u prepared_there found (subst (IsLegal (last_state p after).memory (view_in (last_state p after) i) a) e legal) in (
          move,
          ⊎_elim
              (λ (h : is_failure x ≡ true). inl (fails ∙ h, subst (λ (ys : List Entry). FailsBy p steps n i a b ys) (sym same) (fails_in p steps n entries s ok run.reached run.stands i a b l asks after u prepared_there move (ap is_failure (sym event_same) ∙ h))))
              (λ (h : is_failure x ≡ false). inr (fails ∙ h, subst (λ (ys : List Entry). GoesOnBy p steps n i a b ys) (sym same) (goes_on p steps n entries s ok run.reached run.stands i a b l asks after u prepared_there move (ap is_failure (sym event_same) ∙ h))))
              (cases_Bool (is_failure x)),
        )
      where
        event_same : x ≡ (step_result (last_state p after).memory (view_in (last_state p after) i) i a (choice_behind (last_state p entries).memory a b)).event
        event_same = made_event ∙ ap (λ (d : Choice). (step_result (last_state p after).memory (view_in (last_state p after) i) i a d).event) e

        entry_same : (let y : Entry = record { thread = i; silent = k; event = x } in y) ≡ entry_of_access (last_state p after) i (silent_there p steps entries i) a (choice_behind (last_state p entries).memory a b)
        entry_same = ap (λ (z : ℕ). let y : Entry = record { thread = i; silent = z; event = x } in y) q ∙ ap (λ (z : Event). let y : Entry = record { thread = i; silent = silent_there p steps entries i; event = z } in y) event_same

        same : list ≡ after ++ entry_of_access (last_state p after) i (silent_there p steps entries i) a (choice_behind (last_state p entries).memory a b) ∷ []
        same = told_list ∙ ap (λ (y : Entry). after ++ y ∷ []) entry_same

    -- the list is as small as it may be
    pub made_few : (list : List Entry) (e : Entry) → list ≡ after ++ e ∷ [] → e.event ≡ (step_result (last_state p after).memory (view_in (last_state p after) i) i a (choice_behind (last_state p entries).memory a b)).event
        → (length list ≡ length entries + 1) × ((most : ℕ) → b ≤ most → AreSmall most entries → AreSmall (most + 2) list)
    made_few list e told_list now = (
      omega (arith, ap {B = ℕ} length told_list, length-append after (e ∷ []), after_few),
      λ most low small.
          one_small (most + 2) after list e told_list
          (subst (AreSmall (most + 2)) (sym made) (room_small puts (location_of a) b most entries small))
          (subst (λ (x : Event). largest_stamp x ≤ most + 2) (sym now) (made_small u.memory (view_in u i) i s.memory a b most low)),
    )

    -- where it chooses a message
    pub tried_close : (c : Choice) (k : ℕ) (x : Event) (list : List Entry) (f : Bool) → c ≡ choice_close (last_state p entries).memory a b → k ≡ silent_there p steps entries i → leaves_choice a ≡ true
        → IsSome (message_at b (messages (last_state p entries).memory (location_of a))) → IsLegal (last_state p entries).memory (view_in (last_state p entries) i) a c → x ≡ event_behind (last_state p entries).memory a b
        → list ≡ after ++ record { thread = i; silent = k; event = x } ∷ [] → f ≡ is_failure x
        → (IsMove (node_of p steps entries) i a b × (((f ≡ true) × FailsBy p steps (node_of p steps entries) i a b list) ⊎ ((f ≡ false) × GoesOnBy p steps (node_of p steps entries) i a b list)))
        × ((length list ≡ length entries + 1) × ((most : ℕ) → b ≤ most → AreSmall most entries → AreSmall (most + 2) list))
    tried_close c k x list f e q some found legal is_event told_list fails =
        let now = is_event ∙ sym (event_then some) in (
          tried_some (choice_behind s.memory a b) k x list f refl q (λ _. found) (opened_then (subst (IsLegal s.memory (view_in s i) a) e legal)) now told_list fails,
          made_few list (record { thread = i; silent = k; event = x }) told_list now,
        )

  -- where it doesn't
  pub tried_only : (k : ℕ) (x : Event) (list : List Entry) (f : Bool) → b ≡ 0 → k ≡ silent_there p steps entries i → leaves_choice a ≡ false
      → x ≡ (step_result (last_state p entries).memory (view_in (last_state p entries) i) i a Plain).event → list ≡ entries ++ record { thread = i; silent = k; event = x } ∷ [] → f ≡ is_failure x
      → (IsMove (node_of p steps entries) i a b × (((f ≡ true) × FailsBy p steps (node_of p steps entries) i a b list) ⊎ ((f ≡ false) × GoesOnBy p steps (node_of p steps entries) i a b list)))
      × ((length list ≡ length entries + 1) × ((most : ℕ) → AreSmall most entries → AreSmall (most + 2) list))
  tried_only k x list f z q none is_event told_list fails =
      let choice = plain_choice s.memory a b none in
      let told = sym (plain_puts s.memory a b none) in
      let few = made_few false entries told refl list (record { thread = i; silent = k; event = x }) told_list (is_event ∙ ap (λ (c : Choice). (step_result s.memory (view_in s i) i a c).event) (sym choice)) in (
        tried_some false entries told refl Plain k x list f (sym choice) q (λ h. absurd (true≢false (sym h ∙ none))) (plain_legal s.memory (view_in s i) a none run.stands.running) is_event told_list fails,
        (few.0, λ most small. few.1 most (omega (arith, z)) small),
      )
