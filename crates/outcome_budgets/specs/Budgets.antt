-- Runs within a budget of steps a thread, and what the outcomes within a budget say of a greater one.
use Rattle.std.specs.Prelude.{◌≡◌, ◌↔◌, ℕ, ◌<◌, ◌≤◌, true, false, List, ◌++◌, length}
use Rattle.std.specs.List.{AllByRecursion}
use Rattle.values_undef.specs.Journal.{last_fails, used_steps}
use Rattle.values_undef.specs.declared.journal.Ending.TheVariants.{Done}
use Rattle.values_undef.specs.declared.journal.Entry.{Entry}
use Rattle.il_syntax.specs.declared.program.Program.{Program}
use Rattle.thread_core.specs.Programs.{IsProperProgram}
use Rattle.view_machine.specs.Runs.{IsJournalRun}
use Rattle.run_choices.specs.Complete.{IsComplete, has_spent}
use Rattle.outcome_nodes.specs.Outcome.{FinalOutcome, final_outcome_of, IsOutcome, HaveAllOutcomes}

-- ---- runs that go on

-- no thread uses more steps than its budget, and one that is ended for it has used all of it
pub record KeepsBudget (p : Program) (entries : List Entry) (steps : ℕ) : Type 0 where
  pub within : (i : ℕ) → i < length p.threads → used_steps entries i ≤ steps
  pub spent : (i : ℕ) → i < length p.threads → has_spent entries i ≡ true → used_steps entries i ≡ steps

-- the entries, and then some more, are a run that is complete for the budget
pub record CanBeCompleted (p : Program) (entries : List Entry) (steps : ℕ) : Type 0 where
  pub more : List Entry
  pub run : IsJournalRun p (entries ++ more)
  pub complete : IsComplete p (entries ++ more) steps

-- each run within a budget can be gone on with so
abbrev pub RunsCanBeCompleted : Type 0
RunsCanBeCompleted = (p : Program) (entries : List Entry) (steps : ℕ) → IsProperProgram p → IsJournalRun p entries → KeepsBudget p entries steps → CanBeCompleted p entries steps

-- so there is an outcome within each budget
abbrev pub OutcomesExist : Type 0
OutcomesExist = (p : Program) (steps : ℕ) → IsProperProgram p → (o : FinalOutcome) × IsOutcome p steps o

-- ---- greater budgets

-- no thread is stopped in a run that is complete for the budget
abbrev pub NoneIsStopped : Program → ℕ → Type 0
NoneIsStopped p steps = (entries : List Entry) (i : ℕ) → IsJournalRun p entries → IsComplete p entries steps → i < length p.threads → has_spent entries i ≡ false

-- Then the outcomes within each greater budget are the same, and where no thread is stopped none uses more steps.
abbrev pub UnstoppedListsAreOfEveryBudget : Type 0
UnstoppedListsAreOfEveryBudget = (p : Program) (few many : ℕ) (o : FinalOutcome) → IsProperProgram p → few ≤ many → NoneIsStopped p few → IsOutcome p many o ↔ IsOutcome p few o

abbrev pub UnstoppedRunsAreWithin : Type 0
UnstoppedRunsAreWithin = (p : Program) (steps : ℕ) (entries : List Entry) → IsProperProgram p → NoneIsStopped p steps → IsJournalRun p entries → ((i : ℕ) → i < length p.threads → has_spent entries i ≡ false)
    → (i : ℕ) → i < length p.threads → used_steps entries i ≤ steps

-- ---- lists that are done

-- an outcome that is done within a budget is one within each greater budget
abbrev pub DoneOutcomesStay : Type 0
DoneOutcomesStay = (p : Program) (few many : ℕ) (o : FinalOutcome) → few ≤ many → IsOutcome p few o → o.ending ≡ Done → IsOutcome p many o

-- each outcome within the budget is done
abbrev pub AreAllDone : Program → ℕ → Type 0
AreAllDone p steps = (o : FinalOutcome) → IsOutcome p steps o → o.ending ≡ Done

-- Then no thread is stopped. Where one fails it need not be so, though none is spent: a thread that prints for ever,
-- beside one that fails, may be stopped before that, and prints more within a greater budget.
abbrev pub NoneIsStoppedWhereDone : Type 0
NoneIsStoppedWhereDone = (p : Program) (steps : ℕ) → AreAllDone p steps → NoneIsStopped p steps

-- So the outcomes within each greater budget are the same.
abbrev pub DoneListsAreOfEveryBudget : Type 0
DoneListsAreOfEveryBudget = (p : Program) (few many : ℕ) (o : FinalOutcome) → IsProperProgram p → few ≤ many → AreAllDone p few → IsOutcome p many o ↔ IsOutcome p few o

-- And the program comes to its end: no run of it fails, and where no thread is stopped none uses more steps.
abbrev pub DoneProgramsEnd : Type 0
DoneProgramsEnd = (p : Program) (steps : ℕ) (entries : List Entry) → IsProperProgram p → AreAllDone p steps → IsJournalRun p entries → ((i : ℕ) → i < length p.threads → has_spent entries i ≡ false)
    → (last_fails entries ≡ false) × ((i : ℕ) → i < length p.threads → used_steps entries i ≤ steps)

-- the outcome of each of the runs is done
abbrev pub AreRunsDone : Program → List (List Entry) → Type 0
AreRunsDone p runs = AllByRecursion (λ entries. (final_outcome_of p entries).ending ≡ Done) runs

-- so runs that have all outcomes within a budget, each of them done, have all within each greater budget
abbrev pub DoneRunsAreOfEveryBudget : Type 0
DoneRunsAreOfEveryBudget = (p : Program) (few many : ℕ) (runs : List (List Entry)) → IsProperProgram p → few ≤ many → AreRunsDone p runs → HaveAllOutcomes p few runs → HaveAllOutcomes p many runs
