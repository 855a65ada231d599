-- What is promised of a run of a program that stands for the given one, whoever makes it, and of the report that tells
-- it.
use Rattle.std.specs.Prelude.{◌≡◌, ℕ, List, length}
use Rattle.values_undef.specs.declared.journal.Ending.{Ending}
use Rattle.values_undef.specs.declared.journal.Entry.{Entry}
use Rattle.values_undef.specs.Journal.{ending_in}
use Rattle.il_syntax.specs.declared.program.Program.{Program}
use Rattle.il_syntax.specs.WellFormed.{IsWellFormed}
use Rattle.journal_text.specs.Report.{report_text}
use Rattle.view_machine.specs.Runs.{IsJournalRun}
use Rattle.run_choices.specs.Complete.{IsComplete}
use Rattle.walk_limits.specs.Walks.{EntriesTakeCandidates}
use Rattle.simulation.specs.Conditions.{IsLifted}

-- A run, as a report tells it.
pub record ReportedRun : Type 0 where
  pub given : Program  -- the program that was given
  pub target : Program  -- the program that ran in its place
  pub journal : List Entry  -- what that did
  pub source : List Entry  -- the run of the given program that explains it

-- The headline. The journal is a run of the target, complete for the budget of steps, and each access to an atomic
-- location took one of its candidates. The source journal is a run of the given program that the journal refines: it
-- has the same outputs and ending, or it fails after a beginning of the outputs, and no thread has used more steps.
pub record IsReportedRun (steps : ℕ) (r : ReportedRun) : Type 0 where
  pub given_well_formed : IsWellFormed r.given
  pub target_well_formed : IsWellFormed r.target
  pub threads : r.target.threads ≡ r.given.threads
  pub run : IsJournalRun r.target r.journal
  pub complete : IsComplete r.target r.journal steps
  pub candidates : EntriesTakeCandidates r.target r.journal
  pub lifted : IsLifted r.given r.target r.journal r.source

-- how it ends
abbrev pub run_ending : ReportedRun → Ending
run_ending r = ending_in r.journal (length r.target.threads)

-- and its report: the target is written, its journal, and the source journal
abbrev pub run_report : ReportedRun → List ℕ
run_report r = report_text r.target r.journal r.source (length r.target.threads)

-- the ending of the source journal, and that journal with any other beside it, as the report of a run of the given
-- program
abbrev pub source_ending : ReportedRun → Ending
source_ending r = ending_in r.source (length r.given.threads)

abbrev pub source_report : ReportedRun → List Entry → List ℕ
source_report r other = report_text r.given r.source other (length r.given.threads)

-- what was written of a run of the target, with this source journal
pub record IsWritten (target : Program) (journal source : List Entry) (out : List ℕ) (ending : Ending) : Type 0 where
  pub text : out ≡ report_text target journal source (length target.threads)
  pub ends : ending ≡ ending_in journal (length target.threads)

-- and with one that the journal was lifted to
pub record IsReported (given target : Program) (journal : List Entry) (out : List ℕ) (ending : Ending) : Type 0 where
  pub source : List Entry
  pub lifted : IsLifted given target journal source
  pub told : IsWritten target journal source out ending
