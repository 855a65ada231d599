-- Outcomes within greater budgets.
use Rattle.std.proofs.Common.{◌≡◌, ⊎_elim, ℕ, ◌<◌, ◌≤◌, Bool, true, false, cond, List, [], ◌∷◌, ◌++◌, length, get_or, refl, sym, ap, ◌∙◌, arith}
use Rattle.std.specs.List.{AllByRecursion, range_with_len}
use Rattle.std.proofs.lemmas.Bool.{cases_Bool, false≢true, true≢false}
use Rattle.std.proofs.lemmas.List.{length-map, get_or-map}
use Rattle.std.proofs.lemmas.List.Folds.{list_all_at}
use Rattle.std.proofs.lemmas.List.FromFn.{length-range_with_len, get_or-range_with_len}
use Rattle.values_undef.specs.Journal.{last_fails, used_steps, has_finished, all_finished, ending_in}
use Rattle.values_undef.specs.declared.journal.Ending.{Ending}
use Rattle.values_undef.specs.declared.journal.Ending.TheVariants.{Done, Failed, Spent}
use Rattle.values_undef.specs.declared.journal.Entry.{Entry}
use Rattle.il_syntax.specs.declared.program.Program.{Program}
use Rattle.thread_core.specs.Programs.{IsProperProgram}
use Rattle.view_machine.specs.State.{State, initial_state}
use Rattle.view_machine.specs.Runs.{IsRunFrom, IsJournalRun, state_after}
use Rattle.view_machine.proofs.Callers.{all_get, runs_cut}
use Rattle.run_choices.specs.Complete.{IsComplete, has_spent}
use Rattle.run_choices.proofs.Callers.{finished_unspent}
use Rattle.outcome_nodes.specs.Outcome.{FinalOutcome, final_outcome_of, IsOutcome, HaveAllOutcomes}
use Rattle.outcome_nodes.proofs.Callers.{entry_done}
use Rattle.outcome_budgets.specs.Budgets.{KeepsBudget, CanBeCompleted, OutcomesExist, NoneIsStopped, UnstoppedListsAreOfEveryBudget, UnstoppedRunsAreWithin, DoneOutcomesStay, AreAllDone, NoneIsStoppedWhereDone, DoneListsAreOfEveryBudget, DoneProgramsEnd, AreRunsDone, DoneRunsAreOfEveryBudget}
use Rattle.outcome_budgets.proofs.Standing.{Stands, stands_first, stands_all}
use Rattle.outcome_budgets.proofs.Completing.{runs_completed}
use Rattle.outcome_budgets.proofs.Cutting.{IsSpentRun, within_or_cut}

-- ---- runs that are done

abbrev is_done : Ending → Bool
is_done Done = true
is_done Failed = false
is_done Spent = false

finished_each : (entries : List Entry) (n i : ℕ) → all_finished entries n ≡ true → i < n → has_finished entries i ≡ true
finished_each entries n i h l =
    ⊎_elim (λ (q : has_finished entries i ≡ true). q)
    (λ (q : has_finished entries i ≡ false).
    let at : get_or (range_with_len 0 n) i 0 ≡ i = get_or-range_with_len 0 n i 0 l ∙ omega arith in
    absurd (true≢false (sym h ∙ list_all_at (has_finished entries) (range_with_len 0 n) i 0 (omega (arith, l, length-range_with_len 0 n)) (ap (has_finished entries) at ∙ q))))
    (cases_Bool (has_finished entries i))

-- one does not fail, and each thread of it has come to its end
done_ends : (entries : List Entry) (n : ℕ) → ending_in entries n ≡ Done → (last_fails entries ≡ false) × (all_finished entries n ≡ true)
done_ends entries n h = ends (last_fails entries) (all_finished entries n) h
  where
    ends : (fails all : Bool) → cond fails Failed (cond all Done Spent) ≡ Done → (fails ≡ false) × (all ≡ true)
    ends true all q = absurd (false≢true (ap is_done q))
    ends false true q = (refl, refl)
    ends false false q = absurd (false≢true (ap is_done q))

done_unspent : (p : Program) (entries : List Entry) (i : ℕ) → IsJournalRun p entries → (final_outcome_of p entries).ending ≡ Done → i < length p.threads → has_spent entries i ≡ false
done_unspent p entries i run d l = finished_unspent p entries i run (finished_each entries (length p.threads) i (done_ends entries (length p.threads) d).1 l)

-- ---- where no thread is stopped

complete_for_more : (p : Program) (few many : ℕ) (entries : List Entry) → few ≤ many → IsComplete p entries few → ((i : ℕ) → i < length p.threads → has_spent entries i ≡ false) → IsComplete p entries many
complete_for_more p few many entries l c going = record {
  within = λ i there. omega (arith, c.within i there, l);
  spent = λ i there h. absurd (true≢false (sym h ∙ going i there));
  whole = c.whole;
}

module _ (p : Program) (steps : ℕ) (ok : IsProperProgram p) (none : NoneIsStopped p steps) where
  -- a run in which no thread is stopped before the end of the budget keeps it
  keeps : (entries : List Entry) → IsJournalRun p entries → ((i : ℕ) → i < length p.threads → has_spent entries i ≡ true → steps ≤ used_steps entries i) → KeepsBudget p entries steps
  keeps entries run full =
      ⊎_elim (λ (w : KeepsBudget p entries steps). w)
      (λ (r : IsSpentRun p steps). absurd (true≢false (sym r.spent ∙ none r.entries r.thread r.run r.complete r.there)))
      (within_or_cut p steps entries ok full [] entries (initial_state p) refl (stands_first p) (record { within = λ i l. omega arith; spent = λ i l h. absurd (false≢true h) }) run)

  -- so does one in which none is stopped at all
  keeps_unstopped : (entries : List Entry) → IsJournalRun p entries → ((i : ℕ) → i < length p.threads → has_spent entries i ≡ false) → KeepsBudget p entries steps
  keeps_unstopped entries run going = keeps entries run (λ i l h. absurd (true≢false (sym h ∙ going i l)))

  fewer : (many : ℕ) (o : FinalOutcome) → steps ≤ many → IsOutcome p many o → IsOutcome p steps o
  fewer many o l q =
      let w = keeps q.entries q.run (λ i t h. let full = q.complete.spent i t h in omega (arith, full, l)) in
      record { entries = q.entries; run = q.run; complete = record { within = w.within; spent = w.spent; whole = q.complete.whole }; outcome = q.outcome }

pub unstopped_lists : UnstoppedListsAreOfEveryBudget
unstopped_lists p few many o ok l none = (fewer p few ok none many o l, more)
  where
    more : IsOutcome p few o → IsOutcome p many o
    more q = record { entries = q.entries; run = q.run; complete = complete_for_more p few many q.entries l q.complete (λ i there. none q.entries i q.run q.complete there); outcome = q.outcome }

pub unstopped_runs : UnstoppedRunsAreWithin
unstopped_runs p steps entries ok none run going i l = (keeps_unstopped p steps ok none entries run going).within i l

-- ---- outcomes that are there

-- a run that is done is complete for each greater budget
pub done_complete : (p : Program) (few many : ℕ) (entries : List Entry) → few ≤ many → IsJournalRun p entries → IsComplete p entries few → (final_outcome_of p entries).ending ≡ Done → IsComplete p entries many
done_complete p few many entries l run c d = complete_for_more p few many entries l c (λ i there. done_unspent p entries i run d there)

pub outcomes_exist : OutcomesExist
outcomes_exist p steps ok =
    let c = runs_completed p [] steps ok tt (record { within = λ i l. omega arith; spent = λ i l h. absurd (false≢true h) }) in
    (final_outcome_of p c.more, record { entries = c.more; run = c.run; complete = c.complete; outcome = refl })

pub done_stay : DoneOutcomesStay
done_stay p few many o l q d = record {
  entries = q.entries;
  run = q.run;
  complete = done_complete p few many q.entries l q.run q.complete (ap (λ (x : FinalOutcome). x.ending) q.outcome ∙ d);
  outcome = q.outcome;
}

-- ---- where each outcome is done

run_done : (p : Program) (steps : ℕ) (entries : List Entry) → AreAllDone p steps → IsJournalRun p entries → IsComplete p entries steps → (final_outcome_of p entries).ending ≡ Done
run_done p steps entries all run c = all (final_outcome_of p entries) (record { entries = entries; run = run; complete = c; outcome = refl })

pub done_unstopped : NoneIsStoppedWhereDone
done_unstopped p steps all entries i run c there = done_unspent p entries i run (run_done p steps entries all run c) there

pub done_lists : DoneListsAreOfEveryBudget
done_lists p few many o ok l all = unstopped_lists p few many o ok l (done_unstopped p few all)

failed_stays : (p : Program) (s : State) (entries : List Entry) → s.memory.failed ≡ true → IsRunFrom p s entries → (state_after p s entries).memory.failed ≡ true
failed_stays p s [] f h = f
failed_stays p s (e ∷ entries) f h = absurd (false≢true (sym (entry_done p s e h.0).running.running ∙ f))

module _ (p : Program) (steps : ℕ) (entries : List Entry) (ok : IsProperProgram p) (all : AreAllDone p steps) (run : IsJournalRun p entries) (w : KeepsBudget p entries steps) where
  c : CanBeCompleted p entries steps
  c = runs_completed p entries steps ok run w

  st : Stands p entries (state_after p (initial_state p) entries)
  st = stands_all p [] entries (initial_state p) (stands_first p) run

  more : IsRunFrom p (state_after p (initial_state p) entries) c.more
  more = (runs_cut p (initial_state p) entries c.more c.run).1

  -- a run that has failed goes on with nothing
  fails : last_fails entries ≡ true → last_fails (entries ++ c.more) ≡ true
  fails q =
      (stands_all p entries c.more (state_after p (initial_state p) entries) st more).fails
      ∙ failed_stays p (state_after p (initial_state p) entries) c.more (sym st.fails ∙ q) more

  unfailed : last_fails entries ≡ false
  unfailed =
      ⊎_elim
      (λ (q : last_fails entries ≡ true). absurd (false≢true (sym (done_ends (entries ++ c.more) (length p.threads) (run_done p steps (entries ++ c.more) all c.run c.complete)).0 ∙ fails q)))
      (λ (q : last_fails entries ≡ false). q)
      (cases_Bool (last_fails entries))

pub done_end : DoneProgramsEnd
done_end p steps entries ok all run going = (unfailed p steps entries ok all run w, w.within)
  where
    w : KeepsBudget p entries steps
    w = keeps_unstopped p steps ok (done_unstopped p steps all) entries run going

-- ---- runs that have all outcomes

all_done : (p : Program) (steps : ℕ) (runs : List (List Entry)) → AreRunsDone p runs → HaveAllOutcomes p steps runs → AreAllDone p steps
all_done p steps runs done have o q =
    let at = have.all o q in
    let there : at.0 < length runs = omega (arith, at.1, length-map runs (final_outcome_of p)) in
    ap (λ (x : FinalOutcome). x.ending) (sym (sym (get_or-map (final_outcome_of p) runs at.0 [] o there) ∙ at.2)) ∙ all_get (λ entries. (final_outcome_of p entries).ending ≡ Done) runs at.0 [] there done

all_complete : (p : Program) (few many : ℕ) (runs : List (List Entry)) → few ≤ many → AreRunsDone p runs → AllByRecursion (λ entries. IsJournalRun p entries × IsComplete p entries few) runs
    → AllByRecursion (λ entries. IsJournalRun p entries × IsComplete p entries many) runs
all_complete p few many [] l done h = tt
all_complete p few many (entries ∷ runs) l done h = ((h.0.0, done_complete p few many entries l h.0.0 h.0.1 done.0), all_complete p few many runs l done.1 h.1)

pub done_runs : DoneRunsAreOfEveryBudget
done_runs p few many runs ok l done have = record {
  complete = all_complete p few many runs l done have.complete;
  all = λ o q. have.all o ((done_lists p few many o ok l (all_done p few runs done have)).0 q);
}
