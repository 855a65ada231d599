-- How long a run is.
use Rattle.std.specs.Prelude.{◌≡◌, ℕ, ◌+◌, ◌*◌, ◌<◌, ◌≤◌, true, List, [], ◌∷◌, ◌++◌, length}
use Rattle.std.specs.List.{AllByRecursion}
use Rattle.values_undef.specs.Access.{is_failure}
use Rattle.values_undef.specs.Journal.{used_steps}
use Rattle.values_undef.specs.declared.journal.Entry.{Entry}
use Rattle.il_syntax.specs.declared.program.Program.{Program}
use Rattle.view_machine.specs.State.{State}
use Rattle.view_machine.specs.Runs.{IsRunFrom, IsJournalRun}

-- each entry of a run is one of a thread of the program
abbrev pub EntriesAreOfThreads : Type 0
EntriesAreOfThreads = (p : Program) (entries : List Entry) → IsJournalRun p entries → AllByRecursion (λ e. e.thread < length p.threads) entries

-- a run has at most an entry for each step that a thread used, and one that ends the thread
abbrev pub RunsAreShort : Type 0
RunsAreShort = (p : Program) (entries : List Entry) (steps : ℕ) → IsJournalRun p entries → ((i : ℕ) → i < length p.threads → used_steps entries i ≤ steps)
    → length entries ≤ length p.threads * (steps + 1)
