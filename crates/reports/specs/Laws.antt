-- What a report tells of its run, whichever command wrote it.
use Rattle.std.specs.Prelude.{◌≡◌, ◌↔◌, ℕ, ◌<◌, ◌≤◌, true, false, List, length}
use Rattle.values_undef.specs.Journal.{last_fails, has_finished}
use Rattle.values_undef.specs.declared.journal.Ending.{Ending}
use Rattle.values_undef.specs.declared.journal.Ending.TheVariants.{Done, Failed, Spent}
use Rattle.values_undef.specs.declared.journal.Entry.{Entry}
use Rattle.il_syntax.specs.declared.program.Program.{Program}
use Rattle.view_machine.specs.Runs.{IsJournalRun}
use Rattle.run_choices.specs.Complete.{IsComplete, has_spent}
use Rattle.refinement.specs.Playings.{AreFew}
use Rattle.replay_text.specs.Reading.{ReadsReplay}
use Rattle.reports.specs.Targets.{IsOptimised, IsTidiedTarget}
use Rattle.reports.specs.Runs.{ReportedRun, IsReportedRun, run_ending, run_report, source_ending, source_report}

-- a report reads as its run
abbrev pub ReportsReadBack : Type 0
ReportsReadBack = (steps : ℕ) (r : ReportedRun) → steps ≤ 16384 → IsReportedRun steps r → ReadsReplay (run_report r) r.target r.journal (run_ending r)

-- and the source journal as one of the given program
abbrev pub SourceJournalsReadBack : Type 0
SourceJournalsReadBack = (steps : ℕ) (r : ReportedRun) (other : List Entry) → steps ≤ 16384 → IsReportedRun steps r
    → ReadsReplay (source_report r other) r.given r.source (source_ending r)

-- What the entries of a run of so many threads tell of its ending, and its ending of them: every thread has finished; the
-- last entry is a failure; there is no failure, and some thread was stopped at the end of its budget.
pub record TellsEnd (entries : List Entry) (threads : ℕ) (e : Ending) : Type 0 where
  pub done : (e ≡ Done) ↔ ((i : ℕ) → i < threads → has_finished entries i ≡ true)
  pub failed : (e ≡ Failed) ↔ (last_fails entries ≡ true)
  pub spent : (e ≡ Spent) ↔ ((last_fails entries ≡ false) × (i : ℕ) × (i < threads) × (has_spent entries i ≡ true))

abbrev pub EndingsTellTheEnd : Type 0
EndingsTellTheEnd = (steps : ℕ) (r : ReportedRun) → IsReportedRun steps r → TellsEnd r.journal (length r.target.threads) (run_ending r)

-- a program has one target of each kind
abbrev pub TargetsAreOne : Type 0
TargetsAreOne = (given one other : Program) → (IsOptimised given one → IsOptimised given other → one ≡ other) × (IsTidiedTarget given one → IsTidiedTarget given other → one ≡ other)

-- the threads of a run that is complete for a budget have used few steps
abbrev pub CompleteRunsAreFew : Type 0
CompleteRunsAreFew = (p : Program) (entries : List Entry) (steps : ℕ) → steps ≤ 16384 → IsJournalRun p entries → IsComplete p entries steps → AreFew entries
