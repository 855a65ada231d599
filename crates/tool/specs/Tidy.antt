-- `tidy`: a run of the tidied program in turns, with choices that are picked or drawn.
use Rattle.std.specs.Prelude.{ℕ, false, List}
use Rattle.reports.specs.Targets.{IsTidiedTarget}
use Rattle.words.specs.declared.command.Drawing.{Drawing}
use Rattle.tool.specs.Meaning.{CommandMeaning}
use Rattle.tool.specs.Headline.{report_meaning}
use Rattle.tool.specs.Walk.{IsWalkOf}

-- the report of a walk of what the optimised program is tidied to
abbrev pub tidy_meaning : List ℕ → Drawing → ℕ → CommandMeaning
tidy_meaning order draws steps = report_meaning false IsTidiedTarget (IsWalkOf order draws steps) steps
