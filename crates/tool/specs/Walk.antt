-- `walk`: a run of a program in turns, with choices that are picked or drawn.
use Rattle.std.specs.Prelude.{ℕ, false, List, length}
use Rattle.values_undef.specs.declared.journal.Entry.{Entry}
use Rattle.il_syntax.specs.declared.program.Program.{Program}
use Rattle.view_machine.specs.Runs.{IsJournalRun}
use Rattle.run_choices.specs.Complete.{IsComplete}
use Rattle.run_choices.specs.Drawn.{Drawn, Picked}
use Rattle.walker.specs.Turns.{InTurns}
use Rattle.reports.specs.Targets.{IsOptimised}
use Rattle.words.specs.declared.command.Drawing.{Drawing}
use Rattle.words.specs.declared.command.Drawing.TheVariants.{Seed, Picks}
use Rattle.tool.specs.Meaning.{CommandMeaning}
use Rattle.tool.specs.Headline.{report_meaning}

-- the choices of a journal were drawn from the seed, or picked by the list
abbrev pub HasChoices : Drawing → Program → List Entry → Type 0
HasChoices (Seed seed) p entries = Drawn p entries seed
HasChoices (Picks list) p entries = Picked p entries list

-- The journal is a run of the program. It is complete for the budget of steps, its entries stand in the turns of the
-- order, and its choices are those of the draws.
pub record IsWalkOf (order : List ℕ) (draws : Drawing) (steps : ℕ) (p : Program) (entries : List Entry) : Type 0 where
  pub run : IsJournalRun p entries
  pub complete : IsComplete p entries steps
  pub turns : InTurns entries order (length p.threads)
  pub choices : HasChoices draws p entries

-- the report of a walk of the optimised program
abbrev pub walk_meaning : List ℕ → Drawing → ℕ → CommandMeaning
walk_meaning order draws steps = report_meaning false IsOptimised (IsWalkOf order draws steps) steps
