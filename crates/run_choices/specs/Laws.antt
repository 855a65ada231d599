-- What one more entry adds to a journal, and how the threads of a run end.
use Rattle.std.specs.Prelude.{◌≡◌, ℕ, ◌+◌, ◌<◌, true, false, ◌==◌, ◌&&◌, ◌||◌, if◌then◌else◌, List, [], ◌∷◌, ◌++◌, length}
use Rattle.values_undef.specs.Access.{is_failure, ends_thread, is_spend}
use Rattle.values_undef.specs.Journal.{last_fails, has_finished, used_steps, entry_steps}
use Rattle.values_undef.specs.declared.journal.Entry.{Entry}
use Rattle.il_syntax.specs.declared.program.Program.{Program}
use Rattle.view_machine.specs.Runs.{IsJournalRun}
use Rattle.run_choices.specs.Complete.{has_ended, has_spent}

-- its thread uses its steps
abbrev pub UsedStepsGrow : Type 0
UsedStepsGrow = (entries : List Entry) (e : Entry) (i : ℕ) → used_steps (entries ++ e ∷ []) i ≡ used_steps entries i + (if e.thread == i then entry_steps e else 0)

-- its thread has ended where its event ends it
abbrev pub EndsAreNoted : Type 0
EndsAreNoted = (entries : List Entry) (e : Entry) (i : ℕ) → has_ended (entries ++ e ∷ []) i ≡ (has_ended entries i || (e.thread == i && ends_thread e.event))

-- and for its budget where the event is `Spend`
abbrev pub SpentBudgetsAreNoted : Type 0
SpentBudgetsAreNoted = (entries : List Entry) (e : Entry) (i : ℕ) → has_spent (entries ++ e ∷ []) i ≡ (has_spent entries i || (e.thread == i && is_spend e.event))

-- the journal ends in a failure where it is one
abbrev pub LastEntriesFail : Type 0
LastEntriesFail = (entries : List Entry) (e : Entry) → last_fails (entries ++ e ∷ []) ≡ is_failure e.event

-- a thread of a run that came to its end was not stopped at the end of its budget
abbrev pub FinishedThreadsAreUnspent : Type 0
FinishedThreadsAreUnspent = (p : Program) (entries : List Entry) (i : ℕ) → IsJournalRun p entries → has_finished entries i ≡ true → has_spent entries i ≡ false

-- a run in which each thread came to its end does not fail
abbrev pub FinishedRunsDoNotFail : Type 0
FinishedRunsDoNotFail = (p : Program) (entries : List Entry) → IsJournalRun p entries → ((i : ℕ) → i < length p.threads → has_finished entries i ≡ true) → last_fails entries ≡ false
