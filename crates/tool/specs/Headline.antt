-- The commands that run the program of their input and write the report of that run.
use Rattle.std.specs.Prelude.{◌≡◌, ◌⊎◌, ℕ, ◌≤◌, Bool, true, List, Some}
use Rattle.values_undef.specs.declared.journal.Entry.{Entry}
use Rattle.values_undef.specs.declared.journal.Ending.{Ending}
use Rattle.il_syntax.specs.declared.program.Program.{Program}
use Rattle.il_parser.specs.Text.{SpellsProgram}
use Rattle.reports.specs.Runs.{ReportedRun, IsReportedRun, IsReported, run_ending, run_report}
use Rattle.tool.specs.declared.status.Status.{Status}
use Rattle.tool.specs.declared.status.Status.TheVariants as status
use Rattle.tool.specs.Statuses.{status_of}
use Rattle.tool.specs.Meaning.{CommandMeaning}
use Rattle.tool.specs.Refusals.{IsTextRefusal, HasTextRefusal, text_limit}

-- The output is the report of a run for the program that the bytes spell, and the status is the ending of the run. The
-- target is the program that a command runs in the place of that one, and `IsOwn` what it says of the target's journal
-- besides.
pub record IsReport (IsTarget : Program → Program → Type 0) (IsOwn : Program → List Entry → Type 0) (steps : ℕ) (bytes out : List ℕ) (result : Status) : Type 0 where
  pub run : ReportedRun
  pub spelled : SpellsProgram bytes run.given
  pub target : IsTarget run.given run.target
  pub reported : IsReportedRun steps run
  pub own : IsOwn run.target run.journal
  pub written : out ≡ run_report run
  pub status : result ≡ status_of (run_ending run)

-- or the text is no program, and is refused
abbrev pub IsReportOutput : (Program → Program → Type 0) → (Program → List Entry → Type 0) → ℕ → List ℕ → List ℕ → Status → Type 0
IsReportOutput IsTarget IsOwn steps bytes out result = IsReport IsTarget IsOwn steps bytes out result ⊎ IsTextRefusal bytes out result

-- the statuses of a run's endings, or want of memory
abbrev pub IsRunStatus : Status → Type 0
IsRunStatus s = (s ≡ status.Done) ⊎ ((s ≡ status.Failed) ⊎ ((s ≡ status.Spent) ⊎ (s ≡ status.NoMemory)))

-- its budget is from 1 to 16384 steps
abbrev pub report_meaning : Bool → (Program → Program → Type 0) → (Program → List Entry → Type 0) → ℕ → CommandMeaning
report_meaning waits IsTarget IsOwn steps = record {
  waits = waits;
  reports = true;
  limit = Some text_limit;
  condition = (1 ≤ steps) × (steps ≤ 16384);
  output = IsReportOutput IsTarget IsOwn steps;
  accepted = λ bytes. (p : Program) × SpellsProgram bytes p;
  refused = HasTextRefusal;
  works = IsRunStatus;
}

-- What is the same of all such commands: the output is the report of a run for the program that the bytes spell.
pub record TellsRun (bytes out : List ℕ) (result : Status) : Type 0 where
  pub steps : ℕ
  pub few : steps ≤ 16384
  pub run : ReportedRun
  pub spelled : SpellsProgram bytes run.given
  pub reported : IsReportedRun steps run
  pub written : out ≡ run_report run
  pub status : result ≡ status_of (run_ending run)

-- what is written of a run, once its journal is lifted to the given program
pub record IsToldRun (given target : Program) (journal : List Entry) (out : List ℕ) (result : Status) : Type 0 where
  pub ending : Ending
  pub reported : IsReported given target journal out ending
  pub status : result ≡ status_of ending
