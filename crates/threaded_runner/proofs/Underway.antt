-- One more call of a thread that is on its way.
use Rattle.std.proofs.Common.{◌≡◌, ◌⊎◌, ℕ, suc, ◌+◌, ◌-◌, ◌%◌, ◌<◌, ◌≤◌, Bool, true, false, cond, eqb, ◌&&◌, List, [], ◌∷◌, ◌++◌, length, inl, inr, refl, sym, ap, ◌∙◌, subst, ⊎_elim, arith, Some, None, Option, slice_get, length-append}
use mathlib.Core.List.{IsPrefix}
use Rattle.std.specs.Prelude.{◌||◌, MatchOption}
use Rattle.std.specs.List.{AllByRecursion}
use Rattle.std.proofs.lemmas.List.{map-append}
use Rattle.std.proofs.lemmas.Bool.{cond-true, cond-false, ne_eqb, eq-eqb, eqb-true, cases_eq, cases_Bool, false≢true}
use Rattle.values_undef.proofs.Callers.{all_push}
use Rattle.rand_pcg.specs.Lcg.{Lcg}
use Rattle.values_undef.specs.Access.{choice_of_event, is_atomic_event, is_failure, ends_thread}
use Rattle.values_undef.specs.Journal.{used_steps, entry_steps, last_fails}
use Rattle.values_undef.specs.declared.access.Access.{Access}
use Rattle.values_undef.specs.declared.access.Access.TheVariants as access
use Rattle.values_undef.specs.declared.access.Choice.{Choice}
use Rattle.values_undef.specs.declared.access.Event.{Event}
use Rattle.il_syntax.specs.declared.program.Program.{Program}
use Rattle.message_memory.specs.declared.history.Call.{Call}
use Rattle.message_memory.specs.History.{MemoryState, memory_state_after, CallStep, after_call, calls_by, entry_of, entries_of}
use Rattle.message_memory.proofs.Callers.{histories_split, none_between, calls_by-append, calls_by-own}
use Rattle.thread_core.specs.declared.next.Next.TheVariants as next
use Rattle.thread_core.specs.Frames.{Stack, next_of}
use Rattle.chooser.specs.Chosen.{leaves_choice, IsChosen, IsChosenBy}
use Rattle.chooser.specs.Draws.{generator, word, drawn, after_draw}
use Rattle.chooser.proofs.Callers.{first_word, next_word}
use Rattle.view_machine.specs.State.{local_in, initial_state, local_after_event}
use Rattle.view_machine.specs.Runs.{is_spend}
use Rattle.view_machine.specs.Laws.{HasSilent, local_after_silent, MakesCallBy, Follows, FollowsThread, IsHistoryOf}
use Rattle.run_choices.specs.Complete.{has_spent}
use Rattle.run_choices.specs.Complete.{has_ended}
use Rattle.run_choices.specs.Drawn.{atomic_entries_of}
use Rattle.run_choices.proofs.Callers.{used_more, ended_more, spent_more, spend_ends}
use Rattle.shared_memory.specs.declared.params.SharedParams.{SharedParams}
use Rattle.shared_memory.specs.Slot.{IsHistory, params_for, memory_with, view_with, call_of}
use Rattle.shared_memory.specs.Passes.{PassValue, own_calls, AccessDone, AccessStopped}
use Rattle.shared_memory.specs.Answers.{FailsAt}
use Rattle.view_machine.specs.Merged.{opening_of}
use Rattle.threaded_runner.specs.Worked.{candidates_of_call, CallsAreDrawn, Worked}
use Rattle.thread_core.specs.Alone.{is_last}
use Rattle.threaded_runner.specs.Underway.{stack_after, IsUnderway, IsNextAccess}
use Rattle.threaded_runner.proofs.Own.{within_beginning, snoc, fails_push, atomics_own}
use Rattle.threaded_runner.proofs.Events.{spend_of, spend_not, atomic_of, ends_of, finish_ends, fails_or_ends, ends_last, goes_on_ends}

-- how many steps an event counts beside the silent ones
abbrev pub counted : Bool → ℕ
counted b = cond b 0 1

-- ---- following the code, one call more

makes_more : (l : Stack) (x : Call) (more longer : List Call) (b : Bool) → is_spend x.event ≡ b → is_last x.event ≡ false → MakesCallBy l x more b → MakesCallBy l x longer b
makes_more l x more longer true is on m = absurd (false≢true (sym on ∙ ends_last x.event (spend_ends x.event is)))
makes_more l x more longer false is on m = (m.0, λ f. absurd (false≢true (sym on ∙ ends_last x.event (finish_ends x.event f))))

follows_push : (p : Program) (l : Stack) (calls : List Call) (c : Call) → Follows p l calls → AllByRecursion (λ x. is_last x.event ≡ false) calls → HasSilent p c.silent (stack_after p l calls)
    → MakesCallBy (local_after_silent p c.silent (stack_after p l calls)) c [] (is_spend c.event) → Follows p l (calls ++ c ∷ [])
follows_push p l [] c f on h m = (h, m, tt)
follows_push p l (x ∷ calls) c f on h m = (
  f.0,
  makes_more (local_after_silent p x.silent l) x calls (calls ++ c ∷ []) (is_spend x.event) refl on.0 f.1,
  follows_push p (local_after_event (local_after_silent p x.silent l) x.event) calls c f.2 on.1 h m,
)

stack_push : (p : Program) (l : Stack) (calls : List Call) (c : Call) → stack_after p l (calls ++ c ∷ []) ≡ local_after_event (local_after_silent p c.silent (stack_after p l calls)) c.event
stack_push p l [] c = refl
stack_push p l (x ∷ calls) c = stack_push p (local_after_event (local_after_silent p x.silent l) x.event) calls c

used_push : (i : ℕ) (calls : List Call) (c : Call) → c.thread ≡ i → used_steps (entries_of (calls ++ c ∷ [])) i ≡ used_steps (entries_of calls) i + entry_steps (entry_of c)
used_push i calls c own =
    ap (λ l. used_steps l i) (map-append entry_of calls (c ∷ [])) ∙ (used_more (entries_of calls) (entry_of c) i ∙ ap (λ (n : ℕ). used_steps (entries_of calls) i + n) (cond-true (eqb c.thread i) (entry_steps (entry_of c)) 0 (eq-eqb c.thread i own)))

-- ---- choices

-- the last of a list, or one before it
last_or_before : (xs : List Call) (c : Call) (b : List Call) (d : Call) (a : List Call) → xs ++ c ∷ [] ≡ b ++ d ∷ a → ((b ≡ xs) × (d ≡ c)) ⊎ ((more : List Call) × (xs ≡ b ++ d ∷ more))
last_or_before [] c [] d a is = inl (refl, cc is)
last_or_before [] c (y ∷ []) d a is = absurd (cc is)
last_or_before [] c (y ∷ z ∷ b) d a is = absurd (cc is)
last_or_before (x ∷ xs) c [] d a is = inr (xs, let e : x ≡ d = cc is in ap (λ (y : Call). y ∷ xs) e)
last_or_before (x ∷ xs) c (y ∷ b) d a is =
    let e : x ≡ y = cc is in ⊎_elim
    (λ (t : (b ≡ xs) × (d ≡ c)). inl ((λ j. sym e j ∷ t.0 j), t.1))
    (λ (t : (more : List Call) × (xs ≡ b ++ d ∷ more)). inr (t.0, λ j. e j ∷ t.1 j))
    (last_or_before xs c b d a (cc is))

-- others' calls draw nothing
drawn_wait : (p : Program) (i seed : ℕ) (seen later : List Call) → CallsAreDrawn p i seen seed → IsPrefix seen later → calls_by i seen ≡ calls_by i later → CallsAreDrawn p i later seed
drawn_wait p i seed seen later drawn begins own = λ b d a parts mine atomic.
    let none : calls_by i begins.0 ≡ [] = none_between i seen begins.0 (own ∙ ap (calls_by i) (sym begins.1)) in
    let inside = within_beginning i seen begins.0 b d a (begins.1 ∙ parts) none mine in
    drawn b d inside.0 inside.1 mine atomic

abbrev pub IsDrawnHere : Program → ℕ → ℕ → List Call → Call → Type 0
IsDrawnHere p i seed before c =
    let choices = candidates_of_call (memory_state_after (opening_of p) before) c in
    slice_get choices (word (generator seed i) (atomic_entries_of i (entries_of before)) % length choices) ≡ Some (choice_of_event c.event)

drawn_push : (p : Program) (i seed : ℕ) (before : List Call) (c : Call) → CallsAreDrawn p i before seed → (is_atomic_event c.event ≡ true → IsDrawnHere p i seed before c) → CallsAreDrawn p i (before ++ c ∷ []) seed
drawn_push p i seed before c drawn here = λ b d a parts mine atomic. ⊎_elim
    (λ (t : (b ≡ before) × (d ≡ c)). subst (λ (x : List Call × Call). IsDrawnHere p i seed x.0 x.1) (λ j. (sym t.0 j, sym t.1 j)) (here (ap (λ (x : Call). is_atomic_event x.event) (sym t.1) ∙ atomic)))
    (λ (t : (more : List Call) × (before ≡ b ++ d ∷ more)). drawn b d t.0 t.1 mine atomic)
    (last_or_before before c b d a parts)

atomics_push : (i : ℕ) (calls : List Call) (c : Call) → c.thread ≡ i → atomic_entries_of i (entries_of (calls ++ c ∷ [])) ≡ atomic_entries_of i (entries_of calls) + cond (is_atomic_event c.event) 1 0
atomics_push i [] c own = ap (λ (b : Bool). cond (b && is_atomic_event c.event) 1 0 + 0) (eq-eqb c.thread i own) ∙ omega arith
atomics_push i (x ∷ calls) c own = let r = atomics_push i calls c own in omega (arith, r)

-- the words of a generator after an access
words_after : (seed i n : ℕ) (g : Lcg) (b : Bool) → ((k : ℕ) → word g k ≡ word (generator seed i) (n + k)) → (k : ℕ) → word (cond b (after_draw g) g) k ≡ word (generator seed i) (n + cond b 1 0 + k)
words_after seed i n g true words k = next_word g k ∙ (words (suc k) ∙ ap (word (generator seed i)) (omega arith))
words_after seed i n g false words k = words k ∙ ap (word (generator seed i)) (omega arith)

-- ---- one more call

abbrev pub Ask : Lcg → ℕ → ℕ → ℕ
Ask g i count = drawn g count

abbrev pub Go : Lcg → ℕ → ℕ → Lcg
Go g i count = after_draw g

module _ (p : Program) (share seed steps left n : ℕ) (old new : PassValue) (stack : Stack) (g g' : Lcg) (a : Access) (event : Event)
    (params : old.params ≡ params_for p share) (under : IsUnderway p old.thread old.seen stack g seed steps left) (most : n ≤ left) (silent : HasSilent p n stack)
    (asks : IsNextAccess (next_of (local_after_silent p n stack)) (eqb n left) a) (same : new.thread ≡ old.thread) (done : AccessDone (λ (g : Lcg) (i count : ℕ). drawn g count) (λ (g : Lcg) (i count : ℕ). after_draw g) old new n a g g' event) where
  abbrev i : ℕ
  i = old.thread

  abbrev own : List Call
  own = calls_by i old.seen

  abbrev c : Call
  c = call_of i n a event

  abbrev before : List Call
  before = done.before

  history_is : IsHistoryOf p new.seen
  history_is = subst (λ (x : SharedParams). IsHistory x new.seen) params done.history

  -- the call is a step of the memory
  call_step : CallStep (memory_state_after (opening_of p) before) c (after_call (memory_state_after (opening_of p) before) c)
  call_step = ((histories_split (opening_of p) before (c ∷ [])).0 (subst (IsHistoryOf p) done.seen history_is)).1.0

  own_is : calls_by i new.seen ≡ own ++ c ∷ []
  own_is = ap (λ (k : ℕ). calls_by k new.seen) (sym same) ∙ done.own

  own_before : own ≡ calls_by i before
  own_before = drop_last own (calls_by i before) c (sym own_is ∙ (ap (calls_by i) done.seen ∙ (calls_by-append i before (c ∷ []) ∙ ap (λ l. calls_by i before ++ l) (calls_by-own i c refl))))
    where
      drop_last : (xs ys : List Call) (c : Call) → xs ++ c ∷ [] ≡ ys ++ c ∷ [] → xs ≡ ys
      drop_last [] [] c e = refl
      drop_last [] (y ∷ []) c e = absurd (cc e)
      drop_last [] (y ∷ z ∷ ys) c e = absurd (cc e)
      drop_last (x ∷ []) [] c e = absurd (cc e)
      drop_last (x ∷ z ∷ xs) [] c e = absurd (cc e)
      drop_last (x ∷ xs) (y ∷ ys) c e = λ j. (let q : x ≡ y = cc e in q) j ∷ drop_last xs ys c (cc e) j

  makes : MakesCallBy (local_after_silent p n stack) c [] (is_spend event)
  makes = ⊎_elim
      (λ (t : (next_of (local_after_silent p n stack) ≡ next.Access a) × (a ≡ access.Spend → ⊥)). subst (MakesCallBy (local_after_silent p n stack) c []) (sym (spend_not call_step.step t.1)) (t.0, λ _. refl))
      (λ (t : (a ≡ access.Spend) × (eqb n left ≡ true) × (next_of (local_after_silent p n stack) ≡ next.Access access.Finish → ⊥)). subst (MakesCallBy (local_after_silent p n stack) c []) (sym (spend_of call_step.step t.0)) (t.0, t.2, refl))
      asks.asked

  start : Stack
  start = local_in (initial_state p) i

  follows_is : FollowsThread p i (calls_by i new.seen)
  follows_is = subst (Follows p (local_in (initial_state p) i)) (sym own_is)
      (follows_push p (local_in (initial_state p) i) own c under.follows under.goes_on (subst (HasSilent p n) under.stands silent) (subst (λ (l : Stack). MakesCallBy (local_after_silent p n l) c [] (is_spend event)) under.stands makes))

  used_is : used_steps (entries_of (calls_by i new.seen)) i ≡ used_steps (entries_of own) i + (n + counted (ends_thread event))
  used_is = ap (λ (l : List Call). used_steps (entries_of l) i) own_is ∙ used_push i own c refl

  -- with a budget that is used up the thread ends
  ends_spent : n ≡ left → ends_thread event ≡ true
  ends_spent e = ends_of call_step.step (asks.ends (eq-eqb n left e))

  pub less : ends_thread event ≡ false → n < left
  less on = ⊎_elim
      (λ (e : n ≡ left). absurd (false≢true (sym on ∙ ends_spent e)))
      (λ (ne : n ≡ left → ⊥). let m = most in strict n left m ne)
      (cases_eq n left)
    where
      strict : (x y : ℕ) → x ≤ y → (x ≡ y → ⊥) → x < y
      strict x y le ne = omega arith

  fits : n + counted (ends_thread event) ≤ left
  fits = elim (cases_Bool (ends_thread event)) [
    | inl e ↦ let q : counted (ends_thread event) ≡ 0 = ap counted e in let m = most in omega (arith, q, m)
    | inr e ↦ let q : counted (ends_thread event) ≡ 1 = ap counted e in let m = less e in omega (arith, q, m)
  ]

  stands_is : stack_after p (local_in (initial_state p) i) (calls_by i new.seen) ≡ local_after_event (local_after_silent p n stack) event
  stands_is = ap (stack_after p (local_in (initial_state p) i)) own_is ∙ (stack_push p (local_in (initial_state p) i) own c ∙ ap (λ (l : Stack). local_after_event (local_after_silent p n l) event) (sym under.stands))

  -- the words so far are as many as the atomic calls before
  words_before : (k : ℕ) → word g k ≡ word (generator seed i) (atomic_entries_of i (entries_of before) + k)
  words_before k = under.words k ∙ ap (λ (m : ℕ). word (generator seed i) (m + k)) (atomics_own i old.seen ∙ (ap (λ (l : List Call). atomic_entries_of i (entries_of l)) own_before ∙ sym (atomics_own i before)))

  drawn_is : CallsAreDrawn p i new.seen seed
  drawn_is = subst (λ (l : List Call). CallsAreDrawn p i l seed) (sym done.seen)
      (drawn_push p i seed before c (drawn_wait p i seed old.seen before under.drawn done.begins own_before) here)
    where
      here : is_atomic_event event ≡ true → IsDrawnHere p i seed before c
      here atomic =
          let chosen = subst (λ (x : SharedParams). IsChosen Ask (memory_with x before) (view_with x before i) a g i (choice_of_event event)) params done.chosen in
          let s : MemoryState = memory_state_after (opening_of p) before in
          let choices : List Choice = candidates_of_call s c in
          let taken = subst (IsChosenBy Ask (memory_with (params_for p share) before) (view_with (params_for p share) before i) a g i (choice_of_event event)) (sym (atomic_of call_step.step) ∙ atomic) chosen in
          let w : drawn g (length choices) ≡ word (generator seed i) (atomic_entries_of i (entries_of before)) % length choices =
          first_word g (length choices) ∙ ap (λ (m : ℕ). m % length choices) (words_before 0 ∙ ap (word (generator seed i)) (omega arith)) in
          subst (λ (k : ℕ). slice_get choices k ≡ Some (choice_of_event event)) w taken

  words_is : (k : ℕ) → word g' k ≡ word (generator seed i) (atomic_entries_of i (entries_of new.seen) + k)
  words_is k =
      let atomics : atomic_entries_of i (entries_of new.seen) ≡ atomic_entries_of i (entries_of before) + cond (leaves_choice a) 1 0 =
      ap (λ (l : List Call). atomic_entries_of i (entries_of l)) done.seen ∙ (atomics_push i before c refl ∙ ap (λ (b : Bool). atomic_entries_of i (entries_of before) + cond b 1 0) (atomic_of call_step.step)) in
      ap (λ (x : Lcg). word x k) done.chooser_is ∙ (words_after seed i (atomic_entries_of i (entries_of before)) g (leaves_choice a) words_before k ∙ ap (λ (m : ℕ). word (generator seed i) (m + k)) (sym atomics))

  -- the thread goes on
  goes : (m : ℕ) (stack' : Stack) → stack' ≡ local_after_event (local_after_silent p n stack) event → is_last event ≡ false → m + 1 ≡ left - n → (m < left) × IsUnderway p i new.seen stack' g' seed steps m
  goes m stack' stands on fewer =
      let one : counted (ends_thread event) ≡ 1 = ap counted (goes_on_ends event on) in
      let lt = less (goes_on_ends event on) in
      let u = used_is in
      let v = under.used in (
        omega (arith, fewer, lt),
        record {
          follows = follows_is;
          goes_on = subst (AllByRecursion (λ x. is_last x.event ≡ false)) (sym own_is) (all_push (λ x. is_last x.event ≡ false) own c under.goes_on on);
          stands = stands ∙ sym stands_is;
          used = omega (arith, u, v, one, fewer, lt);
          drawn = drawn_is;
          words = words_is;
        },
      )

  -- or has come to its end
  ended : is_last event ≡ true → Worked p i new.seen (own_calls new) seed steps
  ended last = subst (λ (l : List Call). Worked p i new.seen l seed steps) (ap (λ (k : ℕ). calls_by k new.seen) (sym same)) (record {
    history = history_is;
    own_is = refl;
    follows = follows_is;
    within = let u = used_is in let v = under.used in let f = fits in omega (arith, u, v, f);
    spent = λ s.
        let spend : is_spend event ≡ true = spent_last s in
        let ends : counted (ends_thread event) ≡ 0 = ap counted (spend_ends event spend) in
        let full : n ≡ left = spend_full spend in
        let u = used_is in let v = under.used in omega (arith, u, v, ends, full);
    whole = ⊎_elim
        (λ (f : is_failure event ≡ true). inr (ap (λ (l : List Call). last_fails (entries_of l)) done.seen ∙ (fails_push before c ∙ f)))
        (λ (e : ends_thread event ≡ true). inl (ended_at e))
        (fails_or_ends event last);
    drawn = drawn_is;
  })
    where
      no_spent : (calls : List Call) → AllByRecursion (λ x. is_last x.event ≡ false) calls → has_spent (entries_of calls) i ≡ false
      no_spent [] all = refl
      no_spent (x ∷ calls) all =
          let not : is_spend x.event ≡ false = elim (cases_Bool (is_spend x.event)) [ inl e ↦ absurd (false≢true (sym all.0 ∙ ends_last x.event (spend_ends x.event e))) | inr e ↦ e ] in
          ap (λ (b : Bool). (eqb x.thread i && b) || has_spent (entries_of calls) i) not ∙ (ap (λ (b : Bool). b || has_spent (entries_of calls) i) (and_no (eqb x.thread i)) ∙ no_spent calls all.1)
        where
          and_no : (b : Bool) → (b && false) ≡ false
          and_no true = refl
          and_no false = refl

      spent_last : has_spent (entries_of (calls_by i new.seen)) i ≡ true → is_spend event ≡ true
      spent_last s =
          let e : has_spent (entries_of (calls_by i new.seen)) i ≡ (has_spent (entries_of own) i || (eqb i i && is_spend event)) =
          ap (λ (l : List Call). has_spent (entries_of l) i) own_is ∙ (ap (λ l. has_spent l i) (map-append entry_of own (c ∷ [])) ∙ spent_more (entries_of own) (entry_of c) i) in
          let f : (has_spent (entries_of own) i || (eqb i i && is_spend event)) ≡ is_spend event = (λ j. no_spent own under.goes_on j || (eq-eqb i i refl j && is_spend event)) in
          sym f ∙ (sym e ∙ s)

      spend_full : is_spend event ≡ true → n ≡ left
      spend_full s = ⊎_elim
          (λ (t : (next_of (local_after_silent p n stack) ≡ next.Access a) × (a ≡ access.Spend → ⊥)). absurd (false≢true (sym (spend_not call_step.step t.1) ∙ s)))
          (λ (t : (a ≡ access.Spend) × (eqb n left ≡ true) × (next_of (local_after_silent p n stack) ≡ next.Access access.Finish → ⊥)). eqb-true n left t.1)
          asks.asked

      ended_at : ends_thread event ≡ true → has_ended (entries_of (calls_by i new.seen)) i ≡ true
      ended_at e =
          ap (λ (l : List Call). has_ended (entries_of l) i) own_is ∙ (ap (λ l. has_ended l i) (map-append entry_of own (c ∷ [])) ∙ (ended_more (entries_of own) (entry_of c) i
          ∙ ((λ j. has_ended (entries_of own) i || (eq-eqb i i refl j && e j)) ∙ or_yes (has_ended (entries_of own) i))))
        where
          or_yes : (b : Bool) → (b || true) ≡ true
          or_yes true = refl
          or_yes false = refl

  pub over_done : (r : Option ℕ) (stack' : Stack) → stack' ≡ local_after_event (local_after_silent p n stack) event → MatchOption r (is_last event ≡ true) (λ m. (is_last event ≡ false) × (m + 1 ≡ left - n))
      → MatchOption r (Worked p i new.seen (own_calls new) seed steps) (λ m. (m < left) × IsUnderway p i new.seen stack' g' seed steps m)
  over_done None stack' stands h = ended h
  over_done (Some m) stack' stands h = goes m stack' stands h.0 h.1

-- a thread that was stopped
pub over_stopped : (p : Program) (share seed steps left : ℕ) (old new : PassValue) (stack : Stack) (g : Lcg) (place : ℕ) → old.params ≡ params_for p share → IsUnderway p old.thread old.seen stack g seed steps left
    → new.thread ≡ old.thread → AccessStopped old new place → Worked p old.thread new.seen (own_calls new) seed steps
over_stopped p share seed steps left old new stack g place params under same stopped =
    let i = old.thread in
    let own : calls_by i old.seen ≡ calls_by i new.seen = sym stopped.own ∙ ap (λ (k : ℕ). calls_by k new.seen) same in
    subst (λ (l : List Call). Worked p i new.seen l seed steps) (ap (λ (k : ℕ). calls_by k new.seen) (sym same)) (record {
      history = subst (λ (x : SharedParams). IsHistory x new.seen) params stopped.history;
      own_is = refl;
      follows = subst (FollowsThread p i) own under.follows;
      within = let u = under.used in let q = ap (λ (l : List Call). used_steps (entries_of l) i) own in omega (arith, u, q);
      spent = λ s. absurd (false≢true (sym (no_spent i (calls_by i old.seen) under.goes_on) ∙ (ap (λ (l : List Call). has_spent (entries_of l) i) own ∙ s)));
      whole = inr (fails_here new.seen place stopped.fails);
      drawn = drawn_wait p i seed old.seen new.seen under.drawn stopped.seen own;
    })
  where
    and_no : (b : Bool) → (b && false) ≡ false
    and_no true = refl
    and_no false = refl

    no_spent : (i : ℕ) (calls : List Call) → AllByRecursion (λ x. is_last x.event ≡ false) calls → has_spent (entries_of calls) i ≡ false
    no_spent i [] all = refl
    no_spent i (x ∷ calls) all =
        let not : is_spend x.event ≡ false = elim (cases_Bool (is_spend x.event)) [ inl e ↦ absurd (false≢true (sym all.0 ∙ ends_last x.event (spend_ends x.event e))) | inr e ↦ e ] in
        ap (λ (b : Bool). (eqb x.thread i && b) || has_spent (entries_of calls) i) not ∙ (ap (λ (b : Bool). b || has_spent (entries_of calls) i) (and_no (eqb x.thread i)) ∙ no_spent i calls all.1)

    get_snoc : (b : List Call) (c : Call) → slice_get (b ++ c ∷ []) (length b) ≡ Some c
    get_snoc [] c = refl
    get_snoc (x ∷ b) c = get_snoc b c

    fails_here : (h : List Call) (place : ℕ) → FailsAt h place → last_fails (entries_of h) ≡ true
    fails_here h place f = ⊎_elim
        (λ (e : h ≡ []). let n = f.last in let m : length h ≡ 0 = ap length e in absurd (omega (arith, n, m)))
        (λ (e : (b : List Call) × (c : Call) × (h ≡ b ++ c ∷ [])).
        let n = f.last in
        let m : length h ≡ length e.0 + 1 = ap length e.2 ∙ length-append e.0 (e.1 ∷ []) in
        let at : place ≡ length e.0 = omega (arith, n, m) in
        let got : Some f.call ≡ Some e.1 = sym f.found ∙ ((λ j. slice_get (e.2 j) (at j)) ∙ get_snoc e.0 e.1) in
        let it : f.call ≡ e.1 = cc got in
        ap (λ (l : List Call). last_fails (entries_of l)) e.2 ∙ (fails_push e.0 e.1 ∙ (ap (λ (x : Call). is_failure x.event) (sym it) ∙ f.failure)))
        (snoc h)

-- ---- how many calls

pub few_calls : (i : ℕ) (h : List Call) → AllByRecursion (λ x. is_last x.event ≡ false) (calls_by i h) → length (calls_by i h) ≤ used_steps (entries_of (calls_by i h)) i
few_calls j [] all = omega arith
few_calls j (x ∷ h) all = elim (cases_eq x.thread j) [
  | inl same ↦
      let first : calls_by j (x ∷ h) ≡ x ∷ calls_by j h = cond-true (eqb x.thread j) (x ∷ calls_by j h) (calls_by j h) (eq-eqb x.thread j same) in
      let all' = subst (AllByRecursion (λ x. is_last x.event ≡ false)) first all in
      let rest = few_calls j h all'.1 in
      let one : cond (eqb x.thread j) (entry_steps (entry_of x)) 0 ≡ entry_steps (entry_of x) = cond-true (eqb x.thread j) (entry_steps (entry_of x)) 0 (eq-eqb x.thread j same) in
      let step : counted (ends_thread x.event) ≡ 1 = ap counted (goes_on_ends x.event all'.0) in
      subst (λ (l : List Call). length l ≤ used_steps (entries_of l) j) (sym first) (omega (arith, rest, one, step))
  | inr other ↦
      let first : calls_by j (x ∷ h) ≡ calls_by j h = cond-false (eqb x.thread j) (x ∷ calls_by j h) (calls_by j h) (ne_eqb x.thread j other) in
      subst (λ (l : List Call). length l ≤ used_steps (entries_of l) j) (sym first) (few_calls j h (subst (AllByRecursion (λ x. is_last x.event ≡ false)) first all))
]
