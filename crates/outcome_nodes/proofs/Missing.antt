-- Nothing is missed: each run leads from the first node of a closed list to one that shows its outcome.
use Rattle.std.proofs.Common.{◌≡◌, ◌⊎◌, inl, inr, ⊎_elim, ℕ, ◌+◌, ◌<◌, ◌≤◌, Bool, true, false, cond, eqb, ◌&&◌, List, [], ◌∷◌, ◌++◌, length, get_or, set, refl, sym, ap, ◌∙◌, subst, arith}
use Rattle.std.specs.Prelude.{◌||◌}
use Rattle.std.specs.List.{Contains}
use Rattle.std.proofs.lemmas.Bool.{cases_Bool, false≢true, true≢false, cond-true, eq-eqb, or_right}
use Rattle.std.proofs.lemmas.List.{append_assoc, append-nil, get_or-set_same, get_or-set_other, set-get_or}
use Rattle.std.proofs.lemmas.List.Folds.{list_any-append}
use Rattle.values_undef.specs.Access.{choice_of_event, is_failure, ends_thread, is_spend}
use Rattle.values_undef.specs.Journal.{is_finish, last_fails, has_finished, entry_steps, used_steps}
use Rattle.values_undef.specs.declared.access.Access.{Access}
use Rattle.values_undef.specs.declared.access.Access.TheVariants as access
use Rattle.values_undef.specs.declared.access.Event.{Event}
use Rattle.values_undef.specs.declared.access.Event.TheVariants as event
use Rattle.values_undef.specs.declared.journal.Entry.{Entry}
use Rattle.il_syntax.specs.declared.program.Program.{Program}
use Rattle.views.specs.ThreadView.{ThreadView, no_view}
use Rattle.message_memory.specs.Step.{IsProper, step_result, MemStep}
use Rattle.message_memory.specs.EventLaws.{IsOfKind}
use Rattle.message_memory.proofs.Callers.{failures_fail, events_of_kind}
use Rattle.thread_core.specs.declared.next.Next.{Next}
use Rattle.thread_core.specs.declared.next.Next.TheVariants as next
use Rattle.thread_core.specs.Programs.{IsProperProgram, IsProperNext}
use Rattle.thread_core.specs.Frames.{Stack, next_of}
use Rattle.thread_core.specs.Alone.{local_after_event}
use Rattle.thread_core.specs.Steps.{IsProperStack}
use Rattle.thread_core.proofs.Callers.{next_proper}
use Rattle.view_machine.specs.State.{State, local_in, with_local, view_in, has_ended, idle, after_spend, initial_state}
use Rattle.view_machine.specs.Runs.{after_silent, after_entry, IsRunFrom, state_after}
use Rattle.view_machine.specs.Laws.{IsReached}
use Rattle.view_machine.proofs.Callers.{all_get, initial_reached, silent_reached, run_reached, silent_steps_local, proper_in, failure_last, spend_is, states_split}
use Rattle.run_choices.specs.Complete.{IsComplete, has_spent}
use Rattle.run_choices.specs.Complete as complete
use Rattle.run_choices.proofs.Callers.{fails_more}
use Rattle.memory_likeness.specs.Likeness.{AreMemoriesAlike}
use Rattle.memory_likeness.specs.Answering.{IsFollowed}
use Rattle.memory_likeness.proofs.Callers.{accesses_followed}
use Rattle.outcome_nodes.specs.Nodes.{Node, local_of, view_at, first_node, prints, Asks, IsMove, result_at, after_move, IsSpent}
use Rattle.outcome_nodes.specs.Laws.{IsClosedUnderMoves, FailsFrom, EndsIn, NothingIsMissed}
use Rattle.outcome_nodes.proofs.Settling.{settles_alike, stays_at_end}
use Rattle.outcome_nodes.proofs.Entries.{Spends, Makes, EntryDone, entry_done}
use Rattle.outcome_nodes.proofs.Appending.{failures_print_nothing, unended, end_or_not, no_end, used_parts, ended_how, ended_idle}
use Rattle.outcome_nodes.proofs.Following.{IsAt, local_then, Stands, stood, printed_none, local_now, used_now, moved_on}
use Rattle.outcome_nodes.proofs.Opening.{first_at}

abbrev IsShown : Program → ℕ → List Node → List Entry → Type 0
IsShown p steps nodes entries = ((last_fails entries ≡ true) × FailsFrom p steps nodes entries) ⊎ ((last_fails entries ≡ false) × EndsIn p steps nodes entries)

-- ---- a thread ends

spend_stands : (p : Program) (s : State) (e : Entry) → EntryDone p s e → length s.ended ≡ length s.locals → e.event ≡ event.Spend → Stands p s (after_spend (with_local s e.thread (local_then p s e)) e.thread) e
spend_stands p s e d l q = record {
  here = get_or-set_same s.locals e.thread (local_then p s e) idle d.running.there;
  other = λ j n. get_or-set_other s.locals e.thread j (local_then p s e) idle n;
  memory = refl;
  views = λ j. refl;
  ended_here = get_or-set_same s.ended e.thread true true (omega (arith, l, d.running.there));
  ended_other = λ j n. get_or-set_other s.ended e.thread j true true n;
  takes = ap (λ (x : Event). entry_steps (record e { event = x })) q ∙ omega arith;
  prints_none = ap prints q;
  goes = ap is_failure q;
}

abbrev made_state : State → Entry → Program → Access → State
made_state s e p a =
    let o = step_result s.memory (view_in s e.thread) e.thread a (choice_of_event e.event) in
    record {
      locals = set s.locals e.thread (local_after_event (local_then p s e) e.event);
      views = set s.views e.thread o.view;
      ended = set s.ended e.thread (is_finish e.event);
      memory = o.memory;
    }

finish_stands : (p : Program) (s : State) (e : Entry) → EntryDone p s e → length s.ended ≡ length s.locals → e.event ≡ event.Finish → Stands p s (made_state s e p access.Finish) e
finish_stands p s e d l q = record {
  here = get_or-set_same s.locals e.thread (local_after_event (local_then p s e) e.event) idle d.running.there ∙ ap (λ (x : Event). local_after_event (local_then p s e) x) q;
  other = λ j n. get_or-set_other s.locals e.thread j (local_after_event (local_then p s e) e.event) idle n;
  memory = refl;
  views = λ j. ap (λ (x : List ThreadView). get_or x j no_view) (set-get_or s.views e.thread no_view);
  ended_here = get_or-set_same s.ended e.thread (is_finish e.event) true (omega (arith, l, d.running.there)) ∙ ap is_finish q;
  ended_other = λ j n. get_or-set_other s.ended e.thread j (is_finish e.event) true n;
  takes = ap (λ (x : Event). entry_steps (record e { event = x })) q ∙ omega arith;
  prints_none = ap prints q;
  goes = ap is_failure q;
}

-- ---- the end of a journal

ends_shown : (p : Program) (steps : ℕ) (nodes : List Node) (entries : List Entry) (s : State) (n : Node) → Contains nodes n → IsAt p steps entries s n → state_after p (initial_state p) entries ≡ s → IsComplete p entries steps → IsShown p steps nodes entries
ends_shown p steps nodes entries s n c at led whole =
    ⊎_elim
    (λ (f : last_fails entries ≡ true). absurd (true≢false (sym f ∙ at.goes)))
    (λ (f : (i : ℕ) → i < length p.threads → complete.has_ended entries i ≡ true).
    inr (
      at.goes,
      record {
        node = n;
        listed = c;
        finished = at.finished;
        spent = λ i l h. ⊎_elim (λ (q : has_finished entries i ≡ true). absurd (true≢false (sym q ∙ h))) (λ (q : has_spent entries i ≡ true). at.spent i l q) (ended_how entries i (f i l));
        printed = at.printed;
        memory = subst (λ (t : State). AreMemoriesAlike t.memory n.memory) (sym led) at.memories;
      },
    ))
    whole.whole

spent_there : (before rest : List Entry) (e : Entry) → is_spend e.event ≡ true → has_spent (before ++ e ∷ rest) e.thread ≡ true
spent_there before rest e q =
    list_any-append test before (e ∷ rest)
    ∙ or_right (has_spent before e.thread) _ (ap (λ (b : Bool). b || has_spent rest e.thread) (ap (λ (b : Bool). b && is_spend e.event) (eq-eqb e.thread e.thread refl) ∙ q))
  where
    test : Entry → Bool
    test entry = eqb entry.thread e.thread && is_spend entry.event

-- ---- one entry

-- the entry fails, from a node of the list; or a node of the list stands for the state after it
abbrev pub IsFollowedBy : Program → ℕ → List Node → List Entry → State → Entry → Type 0
IsFollowedBy p steps nodes before s e =
    ((is_failure e.event ≡ true) × FailsFrom p steps nodes (before ++ e ∷ []))
    ⊎ ((m : Node) × Contains nodes m × IsAt p steps (before ++ e ∷ []) (after_entry p s e) m)

module _ (p : Program) (steps : ℕ) (nodes : List Node) (before : List Entry) (s : State) (n : Node) (e : Entry) (ok : IsProperProgram p) (closed : IsClosedUnderMoves p steps nodes) (c : Contains nodes n) (at : IsAt p steps before s n) (reached : IsReached p s)
    (d : EntryDone p s e) (proper_local : IsProperStack p (local_then p s e)) (room : used_steps before e.thread + entry_steps e ≤ steps) (full : is_spend e.event ≡ true → used_steps before e.thread + e.silent ≡ steps) where
  there : e.thread < length p.threads
  there = omega (arith, d.running.there, reached.threads)

  le : used_steps before e.thread + e.silent ≤ steps
  le = omega (arith, room)

  notes : length s.ended ≡ length s.locals
  notes = reached.ended

  -- the budget is used up
  spends : Spends p s e → IsFollowedBy p steps nodes before s e
  spends q =
      inr (
        n,
        c,
        subst (λ (t : State). IsAt p steps (before ++ e ∷ []) t n) (sym q.state)
            (stood p steps before s (after_spend (with_local s e.thread (local_then p s e)) e.thread) n e at d (spend_stands p s e d notes q.event) there le
            (λ h. absurd (false≢true (sym (ap is_finish q.event) ∙ h)))
            (λ h. is_spent (full h))),
      )
    where
      is_spent : used_steps before e.thread + e.silent ≡ steps → IsSpent steps n e.thread
      is_spent f =
          let alike = settles_alike p steps (used_steps before e.thread) e.silent (local_in s e.thread) d.silent le in
          let stays = stays_at_end p steps (used_steps before e.thread + e.silent) (local_then p s e) f in
          record {
            used = at.used e.thread there ∙ alike.use_same ∙ stays.use_same ∙ f;
            unfinished = λ h. q.unfinished (ap (λ (x : Stack). next_of x) (sym (at.locals e.thread there ∙ alike.local ∙ stays.local)) ∙ h);
          }

  -- the thread comes to its end
  finishes : (q : Makes p s e) → q.access ≡ access.Finish → IsFollowedBy p steps nodes before s e
  finishes q f =
      inr (
        n,
        c,
        subst (λ (t : State). IsAt p steps (before ++ e ∷ []) t n) (sym (q.state ∙ ap (made_state s e p) f))
            (stood p steps before s (made_state s e p access.Finish) n e at d (finish_stands p s e d notes is_end_event) there le
            (λ _. ap (λ (x : Stack). next_of x) now ∙ asks)
            (λ h. absurd (true≢false (sym h ∙ q.unspent)))),
      )
    where
      is_end_event : e.event ≡ event.Finish
      is_end_event = sym q.event ∙ ap (λ (a : Access). (step_result s.memory (view_in s e.thread) e.thread a (choice_of_event e.event)).event) f

      asks : next_of (local_then p s e) ≡ next.Access access.Finish
      asks = q.asks ∙ ap (λ (a : Access). let x : Next = next.Access a in x) f

      now : local_of n e.thread ≡ local_then p s e
      now = local_now p steps before s n e access.Finish 0 at d there many_locals many_views le asks
        where
          many_locals : length s.locals ≡ length p.threads
          many_locals = reached.threads

          many_views : length s.views ≡ length p.threads
          many_views = reached.views ∙ reached.threads

  -- it makes another access
  moves : (q : Makes p s e) → (q.access ≡ access.Finish → ⊥) → IsFollowedBy p steps nodes before s e
  moves q f =
      ⊎_elim
      (λ (h : is_failure e.event ≡ true). inl (
        h,
        record {
          node = n;
          thread = e.thread;
          access = q.access;
          behind = found.0;
          listed = c;
          there = there;
          asks = asks;
          move = move;
          fails = failed ∙ h;
          printed = λ j l. at.printed j l ∙ sym (printed_none before e (failures_print_nothing e.event h) j);
        },
      ))
      (λ (h : is_failure e.event ≡ false).
      inr (
        after_move p steps n e.thread q.access found.0,
        closed.moves n e.thread q.access found.0 c there asks move (failed ∙ h),
        subst (λ (t : State). IsAt p steps (before ++ e ∷ []) t (after_move p steps n e.thread q.access found.0)) (sym q.state)
            (moved_on p steps before s n e q.access found.0 at d there many_locals many_views le q.asks found.1 q.event going h),
      ))
      (cases_Bool (is_failure e.event))
    where
      many_locals : length s.locals ≡ length p.threads
      many_locals = reached.threads

      many_views : length s.views ≡ length p.threads
      many_views = reached.views ∙ reached.threads

      made : MemStep s.memory (view_in s e.thread) e.thread q.access (choice_of_event e.event) e.event (step_result s.memory (view_in s e.thread) e.thread q.access (choice_of_event e.event)).memory (step_result s.memory (view_in s e.thread) e.thread q.access (choice_of_event e.event)).view
      made = record { legal = q.legal; event = q.event; memory = refl; view = refl }

      kind : IsOfKind q.access e.event
      kind = events_of_kind s.memory _ (view_in s e.thread) _ e.thread q.access (choice_of_event e.event) e.event made

      going : ends_thread e.event ≡ false
      going = kind.ends ∙ no_end q.access f (sym kind.spends ∙ q.unspent)

      proper : IsProper s.memory q.access
      proper = proper_in p s.memory q.access reached.na reached.atomic (subst (IsProperNext p) q.asks (next_proper p (local_then p s e) proper_local))

      found : (b : ℕ) × IsFollowed s.memory n.memory (view_in s e.thread) (view_at n e.thread) e.thread q.access (choice_of_event e.event) b
      found = accesses_followed s.memory n.memory (view_in s e.thread) (view_at n e.thread) e.thread q.access (choice_of_event e.event) at.memories (at.views e.thread there) proper q.legal

      asks : Asks steps n e.thread q.access
      asks = record {
        next = ap (λ (x : Stack). next_of x) (local_now p steps before s n e q.access found.0 at d there many_locals many_views le q.asks) ∙ q.asks;
        unfinished = f;
        left = omega (arith, room, (unended e.event going).2, used_now p steps before s n e q.access found.0 at d there many_locals many_views le q.asks);
      }

      move : IsMove n e.thread q.access found.0
      move = record { found = found.1.found; legal = found.1.answered.legal }

      failed : (result_at n e.thread q.access found.0).memory.failed ≡ is_failure e.event
      failed = found.1.answered.result.alike.memories.failed ∙ failures_fail s.memory _ (view_in s e.thread) _ e.thread q.access (choice_of_event e.event) e.event made

  pub entry_followed : IsFollowedBy p steps nodes before s e
  entry_followed =
      ⊎_elim spends (λ (q : Makes p s e). ⊎_elim (finishes q) (moves q) (end_or_not q.access)) d.cases

-- ---- the induction

-- what the whole journal says of the steps of an entry's thread
record FitsIn (steps : ℕ) (before : List Entry) (e : Entry) : Type 0 where
  room : used_steps before e.thread + entry_steps e ≤ steps
  full : is_spend e.event ≡ true → used_steps before e.thread + e.silent ≡ steps

fits_in : (p : Program) (steps : ℕ) (before rest : List Entry) (s : State) (e : Entry) → IsReached p s → EntryDone p s e → IsRunFrom p (after_entry p s e) rest → IsComplete p (before ++ e ∷ rest) steps → FitsIn steps before e
fits_in p steps before rest s e reached d run whole = record {
  room = omega (arith, total, whole.within e.thread there);
  full = λ h.
      let steps_now : used_steps (before ++ e ∷ rest) e.thread ≡ steps = whole.spent e.thread there (spent_there before rest e h) in
      let idle_then : used_steps rest e.thread ≡ 0 = ended_idle p (after_entry p s e) rest e.thread run (ended h) in
      omega (arith, total, steps_now, idle_then, ap (λ (x : Event). entry_steps (record e { event = x })) (spend_is e.event h));
}
  where
    there : e.thread < length p.threads
    there = omega (arith, d.running.there, reached.threads)

    own : cond (eqb e.thread e.thread) (entry_steps e) 0 ≡ entry_steps e
    own = cond-true (eqb e.thread e.thread) (entry_steps e) 0 (eq-eqb e.thread e.thread refl)

    total : used_steps (before ++ e ∷ rest) e.thread ≡ used_steps before e.thread + (entry_steps e + used_steps rest e.thread)
    total = omega (arith, used_parts before (e ∷ rest) e.thread, own)

    ended : is_spend e.event ≡ true → has_ended (after_entry p s e) e.thread ≡ true
    ended h =
        ⊎_elim
        (λ (q : Spends p s e). ap (λ (t : State). has_ended t e.thread) q.state ∙ get_or-set_same s.ended e.thread true true (omega (arith, d.running.there, reached.ended)))
        (λ (q : Makes p s e). absurd (true≢false (sym h ∙ q.unspent)))
        d.cases

pub local_proper : (p : Program) (s : State) (e : Entry) → IsProperProgram p → IsReached p s → EntryDone p s e → IsProperStack p (local_then p s e)
local_proper p s e ok reached d =
    let r = silent_steps_local p e.thread e.silent s d.running d.silent in
    let t = silent_reached p e.thread e.silent s ok reached r.0 in
    let here : local_in (after_silent p e.thread e.silent s) e.thread ≡ local_then p s e = ap (λ (u : State). local_in u e.thread) r.1 ∙ get_or-set_same s.locals e.thread (local_then p s e) idle d.running.there in
    subst (IsProperStack p) here (all_get (IsProperStack p) (after_silent p e.thread e.silent s).locals e.thread idle (omega (arith, t.threads, d.running.there, reached.threads)) t.stacks)

pub follow : (p : Program) (steps : ℕ) (nodes : List Node) → IsProperProgram p → IsClosedUnderMoves p steps nodes → (rest before : List Entry) (s : State) (n : Node) → Contains nodes n → IsAt p steps before s n → IsReached p s → IsRunFrom p s rest
    → state_after p (initial_state p) before ≡ s → IsComplete p (before ++ rest) steps → IsShown p steps nodes (before ++ rest)
follow p steps nodes ok closed [] before s n c at reached run led whole =
    subst (IsShown p steps nodes) (sym (append-nil before)) (ends_shown p steps nodes before s n c at led (subst (λ (x : List Entry). IsComplete p x steps) (append-nil before) whole))
follow p steps nodes ok closed (e ∷ rest) before s n c at reached run led whole =
    let d = entry_done p s e run.0 in
    let fits = fits_in p steps before rest s e reached d run.1 whole in
    let again : (before ++ e ∷ []) ++ rest ≡ before ++ e ∷ rest = append_assoc before (e ∷ []) rest in
    ⊎_elim
    (λ (f : (is_failure e.event ≡ true) × FailsFrom p steps nodes (before ++ e ∷ [])).
    let none : rest ≡ [] = failure_last p s [] e rest run f.0 in
    subst (λ (x : List Entry). IsShown p steps nodes (before ++ e ∷ x)) (sym none) (inl (fails_more before e ∙ f.0, f.1)))
    (λ (m : (m : Node) × Contains nodes m × IsAt p steps (before ++ e ∷ []) (after_entry p s e) m).
    subst (IsShown p steps nodes) again
    (follow p steps nodes ok closed rest (before ++ e ∷ []) (after_entry p s e) m.0 m.1 m.2 (run_reached p s (e ∷ []) ok reached (run.0, tt)) run.1
    (states_split p (initial_state p) before (e ∷ []) ∙ ap (λ (t : State). after_entry p t e) led)
    (subst (λ (x : List Entry). IsComplete p x steps) (sym again) whole)))
    (entry_followed p steps nodes before s n e ok closed c at reached d (local_proper p s e ok reached d) fits.room fits.full)

pub nothing_missed : NothingIsMissed
nothing_missed p steps nodes entries ok closed run whole =
    follow p steps nodes ok closed entries [] (initial_state p) (first_node p steps) closed.first (first_at p steps) (initial_reached p ok) run refl whole
