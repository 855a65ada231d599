-- `run`: a run of the optimised program by real threads, with choices that are drawn.
use Rattle.std.specs.Prelude.{ℕ, true, List}
use Rattle.values_undef.specs.declared.journal.Entry.{Entry}
use Rattle.il_syntax.specs.declared.program.Program.{Program}
use Rattle.run_choices.specs.Complete.{IsComplete}
use Rattle.run_choices.specs.Drawn.{Drawn}
use Rattle.reports.specs.Targets.{IsOptimised}
use Rattle.tool.specs.Meaning.{CommandMeaning}
use Rattle.tool.specs.Headline.{report_meaning}

-- The journal is complete for the budget of steps, and its choices are drawn from the seed. In which order the accesses
-- of the threads fall isn't said.
pub record IsThreadedRun (seed steps : ℕ) (p : Program) (entries : List Entry) : Type 0 where
  pub complete : IsComplete p entries steps
  pub drawn : Drawn p entries seed

-- The report of such a run of the optimised program. Its threads wait for each other.
abbrev pub run_meaning : ℕ → ℕ → CommandMeaning
run_meaning seed steps = report_meaning true IsOptimised (IsThreadedRun seed steps) steps
