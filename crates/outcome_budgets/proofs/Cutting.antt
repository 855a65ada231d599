-- A run that goes past a budget is cut where it does, and goes on to one that is complete for the budget and has a thread
-- that has spent it: that run isn't done.
use Rattle.std.proofs.Common.{◌≡◌, ◌⊎◌, inl, inr, ⊎_elim, ℕ, zero, suc, ◌+◌, ◌-◌, ◌<◌, ◌≤◌, Bool, true, false, cond, eqb, ◌&&◌, List, [], ◌∷◌, ◌++◌, length, refl, sym, ap, ◌∙◌, subst, arith}
use Rattle.std.specs.List.{AllByRecursion}
use Rattle.std.proofs.lemmas.Bool.{cases_Bool, cases_lt, false≢true, cond_both, cond-true, cond-false, eq-eqb, ne_eqb, or_left, or_right}
use Rattle.std.proofs.lemmas.List.{append_assoc, append-nil}
use Rattle.std.proofs.lemmas.List.Folds.{list_any-append}
use Rattle.values_undef.specs.Access.{choice_of_event, is_spend, ends_thread, weight}
use Rattle.values_undef.specs.Journal.{is_finish, entry_steps, used_steps}
use Rattle.values_undef.specs.declared.access.Access.{Access}
use Rattle.values_undef.specs.declared.access.Access.TheVariants as access
use Rattle.values_undef.specs.declared.journal.Entry.{Entry}
use Rattle.il_syntax.specs.declared.program.Program.{Program}
use Rattle.message_memory.specs.Step.{step_result}
use Rattle.thread_core.specs.declared.next.Next.{Next}
use Rattle.thread_core.specs.declared.next.Next.TheVariants as next
use Rattle.thread_core.specs.Programs.{IsProperProgram}
use Rattle.thread_core.specs.Frames.{Stack, next_of, advanced}
use Rattle.thread_core.specs.Alone.{HasSilent, local_after_silent}
use Rattle.view_machine.specs.State.{State, local_in, view_in}
use Rattle.view_machine.specs.Runs.{IsEntry, after_entry, IsRunFrom, IsJournalRun}
use Rattle.view_machine.proofs.Callers.{states_whole, entry_there, ends_is, ends_here, none_later, spend_is}
use Rattle.run_choices.specs.Complete.{IsComplete, has_spent}
use Rattle.run_choices.proofs.Callers.{spend_ends}
use Rattle.outcome_nodes.proofs.Callers.{Spends, Makes, entry_done, used_parts}
use Rattle.outcome_budgets.specs.Budgets.{KeepsBudget, CanBeCompleted}
use Rattle.outcome_budgets.proofs.Standing.{Stands, stands_more}
use Rattle.outcome_budgets.proofs.Within.{within_more}
use Rattle.outcome_budgets.proofs.Turning.{spend_of, spend_entry, unsilent}
use Rattle.outcome_budgets.proofs.Completing.{completed}

-- ---- some of the silent steps

silent_less : (p : Program) (n k : ℕ) (l : Stack) → HasSilent p k l → n ≤ k → HasSilent p n l
silent_less p zero k l h q = tt
silent_less p (suc n) zero l h q = absurd (omega (arith, q))
silent_less p (suc n) (suc k) l h q = (h.0, silent_less p n k (advanced p l) h.1 (omega (arith, q)))

silent_before : (p : Program) (n k : ℕ) (l : Stack) → HasSilent p k l → n < k → next_of (local_after_silent p n l) ≡ next.Silent
silent_before p n zero l h q = absurd (omega (arith, q))
silent_before p zero (suc k) l h q = h.0
silent_before p (suc n) (suc k) l h q = silent_before p n k (advanced p l) h.1 (omega (arith, q))

-- ---- the cut

-- a run in which a thread has spent the budget
pub record IsSpentRun (p : Program) (steps : ℕ) : Type 0 where
  pub entries : List Entry
  pub thread : ℕ
  pub run : IsJournalRun p entries
  pub complete : IsComplete p entries steps
  pub there : thread < length p.threads
  pub spent : has_spent entries thread ≡ true

spent_there : (before after : List Entry) (e : Entry) → is_spend e.event ≡ true → has_spent (before ++ e ∷ after) e.thread ≡ true
spent_there before after e q =
    list_any-append test before (e ∷ after)
    ∙ or_right (has_spent before e.thread) _ (or_left _ (has_spent after e.thread) (ap (λ (b : Bool). b && is_spend e.event) (eq-eqb e.thread e.thread refl) ∙ q))
  where
    test : Entry → Bool
    test x = eqb x.thread e.thread && is_spend x.event

module _ (p : Program) (entries : List Entry) (steps : ℕ) (s : State) (e : Entry) (ok : IsProperProgram p) (st : Stands p entries s) (w : KeepsBudget p entries steps) (h : IsEntry p s e) where
  there : e.thread < length p.threads
  there = omega (arith, entry_there p s e h, (states_whole p entries s ok st.run).threads)

  abbrev n : ℕ
  n = steps - used_steps entries e.thread

  -- the thread of the entry comes to the end of the budget before it, and not to its own end
  pub cut : steps ≤ used_steps entries e.thread + e.silent → (is_finish e.event ≡ true → steps < used_steps entries e.thread + e.silent) → IsSpentRun p steps
  cut far past = record {
    entries = (entries ++ spend_of e.thread n ∷ []) ++ all.more;
    thread = e.thread;
    run = all.run;
    complete = all.complete;
    there = there;
    spent = ap (λ (x : List Entry). has_spent x e.thread) (append_assoc entries (spend_of e.thread n ∷ []) all.more) ∙ spent_there entries all.more (spend_of e.thread n) refl;
  }
    where
      silent : HasSilent p e.silent (local_in s e.thread)
      silent = (entry_done p s e h).silent

      finishes : Makes p s e → next_of (local_after_silent p e.silent (local_in s e.thread)) ≡ next.Access access.Finish → is_finish e.event ≡ true
      finishes m f =
          ap is_finish (sym m.event)
          ∙ ap (λ (x : Next). is_finish (step_result s.memory (view_in s e.thread) e.thread (asked x) (choice_of_event e.event)).event) (sym m.asks ∙ f)
        where
          asked : Next → Access
          asked next.Silent = access.Finish
          asked (next.Access a) = a

      unfinished : next_of (local_after_silent p n (local_in s e.thread)) ≡ next.Access access.Finish → ⊥
      unfinished f =
          ⊎_elim
          (λ (q : n < e.silent). unsilent access.Finish (sym (silent_before p n e.silent (local_in s e.thread) silent q) ∙ f))
          (λ (q : e.silent ≤ n).
          let same : n ≡ e.silent = omega (arith, q, far) in
          let g = ap (λ (k : ℕ). next_of (local_after_silent p k (local_in s e.thread))) (sym same) ∙ f in
          ⊎_elim (λ (m : Spends p s e). m.unfinished g) (λ (m : Makes p s e). let more = past (finishes m g) in omega (arith, more, q, w.within e.thread there)) (entry_done p s e h).cases)
          (cases_lt n e.silent)

      made : IsEntry p s (spend_of e.thread n)
      made = spend_entry p s e.thread n (entry_done p s e h).running (silent_less p n e.silent (local_in s e.thread) silent (omega (arith, far))) unfinished

      all : CanBeCompleted p (entries ++ spend_of e.thread n ∷ []) steps
      all =
          completed p steps ok (entries ++ spend_of e.thread n ∷ []) (after_entry p s (spend_of e.thread n)) (stands_more p entries s (spend_of e.thread n) st made)
          (within_more p entries (spend_of e.thread n) steps w (omega (arith, w.within e.thread there)) (λ _. omega (arith, w.within e.thread there)))

-- ---- each entry of a run

idle : (entries : List Entry) (i : ℕ) → AllByRecursion (λ e. e.thread ≡ i → ⊥) entries → used_steps entries i ≡ 0
idle [] i h = refl
idle (e ∷ entries) i h =
    let none : cond (eqb e.thread i) (entry_steps e) 0 ≡ 0 = cond-false (eqb e.thread i) (entry_steps e) 0 (ne_eqb e.thread i h.0) in omega (arith, none, idle entries i h.1)

module _ (p : Program) (steps : ℕ) (journal : List Entry) (ok : IsProperProgram p) (full : (i : ℕ) → i < length p.threads → has_spent journal i ≡ true → steps ≤ used_steps journal i) where
  -- a journal in which no thread is stopped before the end of the budget is within it, or is cut
  pub within_or_cut : (entries after : List Entry) (s : State) → journal ≡ entries ++ after → Stands p entries s → KeepsBudget p entries steps → IsRunFrom p s after → KeepsBudget p journal steps ⊎ IsSpentRun p steps
  within_or_cut entries [] s is st w h = inl (subst (λ (x : List Entry). KeepsBudget p x steps) (sym (is ∙ append-nil entries)) w)
  within_or_cut entries (e ∷ after) s is st w h =
      ⊎_elim (λ (q : is_spend e.event ≡ true). inr (spends q))
      (λ (q : is_spend e.event ≡ false).
      ⊎_elim (λ (far : steps < used_steps entries e.thread + entry_steps e). inr (goes_past q far))
      (λ (near : used_steps entries e.thread + entry_steps e ≤ steps).
      within_or_cut (entries ++ e ∷ []) after (after_entry p s e) (is ∙ sym (append_assoc entries (e ∷ []) after)) (stands_more p entries s e st h.0) (within_more p entries e steps w near (λ r. absurd (false≢true (sym q ∙ r)))) h.1)
      (cases_lt steps (used_steps entries e.thread + entry_steps e)))
      (cases_Bool (is_spend e.event))
    where
      there : e.thread < length p.threads
      there = omega (arith, entry_there p s e h.0, (states_whole p entries s ok st.run).threads)

      -- what the thread has used in the end
      used : ends_thread e.event ≡ true → used_steps journal e.thread ≡ used_steps entries e.thread + e.silent
      used q =
          let own : cond (eqb e.thread e.thread) (entry_steps e) 0 ≡ entry_steps e = cond-true (eqb e.thread e.thread) (entry_steps e) 0 (eq-eqb e.thread e.thread refl) in
          let none : weight e.event ≡ 0 = cond-true (ends_thread e.event) 0 1 q in
          let later = idle after e.thread (none_later p (after_entry p s e) after e.thread h.1 (ends_here p s e h.0 q)) in
          omega (arith, ap (λ (x : List Entry). used_steps x e.thread) is, used_parts entries (e ∷ after) e.thread, own, none, later)

      spends : is_spend e.event ≡ true → IsSpentRun p steps
      spends q =
          let end = full e.thread there (ap (λ (x : List Entry). has_spent x e.thread) is ∙ spent_there entries after e q) in
          cut p entries steps s e ok st w h.0 (omega (arith, end, used (spend_ends e.event q))) (λ f. absurd (false≢true (sym (ap is_finish (spend_is e.event q)) ∙ f)))

      goes_past : is_spend e.event ≡ false → steps < used_steps entries e.thread + entry_steps e → IsSpentRun p steps
      goes_past q far = cut p entries steps s e ok st w h.0 (omega (arith, far, light)) past
        where
          light : weight e.event ≤ 1
          light = cond_both (ends_thread e.event) 0 1 (λ (n : ℕ). n ≤ 1) (λ _. omega arith) (λ _. omega arith)

          past : is_finish e.event ≡ true → steps < used_steps entries e.thread + e.silent
          past f = let none : weight e.event ≡ 0 = cond-true (ends_thread e.event) 0 1 (sym (ends_is e.event q) ∙ f) in omega (arith, far, none)
