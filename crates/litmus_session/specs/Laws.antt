-- Which parts of an answer the input fixes.
use Rattle.std.specs.Prelude.{◌≡◌, ℕ, ◌++◌, Bool, List}
use Rattle.il_syntax.specs.declared.program.Program.{Program}
use Rattle.text_parts.specs.Lines.{Text}
use Rattle.litmus.specs.declared.table.Sample.{Sample}
use Rattle.litmus_session.specs.Session.{AreRowsText, IsLitmusSession}
use Rattle.litmus_session.specs.declared.answer.LitmusAnswer.{LitmusAnswer}
use Rattle.litmus_session.specs.declared.answer.LitmusAnswer.TheVariants.{Judged}

-- Two answers are the same, or they differ in source journals alone: both write the rows of one table, whose outcomes, counts, seeds
-- and journals are the same, and then the same verdicts.
pub data AgreesButForSources (answer other : LitmusAnswer) : Type 0 where
  same : answer ≡ other → AgreesButForSources answer other
  same_table : (given target : Program) (samples : List Sample) (rows other_rows verdicts : Text) (met : Bool) → AreRowsText given target samples rows
      → AreRowsText given target samples other_rows → answer ≡ Judged (rows ++ verdicts) met → other ≡ Judged (other_rows ++ verdicts) met → AgreesButForSources answer other

-- An input and the seeds fix the answer but for source journals: a source journal is a run that explains a row's journal, and there
-- may be others.
abbrev pub VerdictsAreFixed : Type 0
VerdictsAreFixed = (input : Text) (seed seeds steps : ℕ) (answer other : LitmusAnswer) → IsLitmusSession input seed seeds steps answer
    → IsLitmusSession input seed seeds steps other → AgreesButForSources answer other
