-- What holds of threads that have worked apart on one memory.
use Rattle.std.specs.Prelude.{ℕ, ◌<◌, List, length}
use mathlib.Core.List.{IsPrefix}
use Rattle.il_syntax.specs.declared.program.Program.{Program}
use Rattle.message_memory.specs.declared.history.Call.{Call}
use Rattle.message_memory.specs.History.{calls_by, entries_of}
use Rattle.view_machine.specs.Runs.{IsJournalRun}
use Rattle.view_machine.specs.Laws.{IsHistoryOf}
use Rattle.run_choices.specs.Complete.{IsComplete}
use Rattle.run_choices.specs.Drawn.{Drawn}
use Rattle.threaded_runner.specs.Worked.{Worked}

-- Where each thread has worked, and seen a beginning of one history with all of its own calls, the history's journal is a run,
-- complete and drawn.
pub record IsDrawnRun (p : Program) (calls : List Call) (seed steps : ℕ) : Type 0 where
  pub run : IsJournalRun p (entries_of calls)
  pub complete : IsComplete p (entries_of calls) steps
  pub drawn : Drawn p (entries_of calls) seed

abbrev pub WorkedHistoriesRun : Type 0
WorkedHistoriesRun = (p : Program) (calls : List Call) (seed steps : ℕ) → IsHistoryOf p calls
    → ((i : ℕ) → i < length p.threads → (seen : List Call) × IsPrefix seen calls × Worked p i seen (calls_by i calls) seed steps)
    → IsDrawnRun p calls seed steps
