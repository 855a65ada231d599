-- What is answered to an input.
use Rattle.std.specs.Prelude.{◌≡◌, ℕ, ◌^◌, ◌<◌, ◌≤◌, ◌++◌, Bool, false, List, length, map}
use Rattle.std.specs.List.{AllZip, flat_map}
use Rattle.values_undef.specs.declared.journal.Entry.{Entry}
use Rattle.il_syntax.specs.declared.program.Program.{Program}
use Rattle.il_reader.specs.Refusal.{Refusal}
use Rattle.text_parts.specs.Lines.{Text}
use Rattle.simulation.specs.Conditions.{IsLifted}
use Rattle.reports.specs.Targets.{IsOptimised}
use Rattle.litmus.specs.Outcome.{EndAndOutputs, outcome_in}
use Rattle.litmus.specs.Table.{IsOutcomeTable}
use Rattle.litmus.specs.declared.table.Sample.{Sample}
use Rattle.litmus_text.specs.Expectation.{Expected}
use Rattle.litmus_text.specs.Output.{are_met, is_met, outcome_text, verdict_lines}
use Rattle.litmus_text.specs.Reading.{ReadsLitmus, IsFirstLitmusRefusal}
use Rattle.litmus_text.specs.declared.fault.LitmusRule.{LitmusRule}
use Rattle.litmus_session.specs.declared.answer.LitmusAnswer.{LitmusAnswer}
use Rattle.litmus_session.specs.declared.answer.LitmusAnswer.TheVariants.{Refused, Judged}

-- the seeds lie in 64 bits, there are 1 to 500 of them, and each thread of a run has 1 to 100 steps
pub record HasLitmusCondition (seed seeds steps : ℕ) : Type 0 where
  pub small : seed < 2 ^ 63
  pub some : 1 ≤ seeds
  pub few : seeds ≤ 500
  pub some_steps : 1 ≤ steps
  pub few_steps : steps ≤ 100

-- the outcome of a row of the target's table
abbrev pub outcome_of_row : Program → Sample → EndAndOutputs
outcome_of_row target s = outcome_in s.journal (length target.threads)

-- the text of a row: its journal is written, and a journal of the given program that it is lifted to
pub record IsRowText (given target : Program) (s : Sample) (text : Text) : Type 0 where
  pub source : List Entry
  pub lifted : IsLifted given target s.journal source
  pub written : text ≡ outcome_text target s (outcome_of_row target s).outputs source

-- the texts of all rows, one after the other
pub record AreRowsText (given target : Program) (samples : List Sample) (text : Text) : Type 0 where
  pub pieces : List Text
  pub each : AllZip (IsRowText given target) samples pieces
  pub is : text ≡ flat_map (λ t. t) pieces

-- The table of the target of the passes is written, and whether each expectation is met by its outcomes; and it is told whether
-- all are.
pub record IsJudgedTable (given : Program) (expectations : List Expected) (seed seeds steps : ℕ) (text : Text) (met : Bool) : Type 0 where
  pub target : Program
  pub samples : List Sample
  pub rows : Text
  pub optimised : IsOptimised given target
  pub table : IsOutcomeTable target seed seeds steps samples
  pub told : AreRowsText given target samples rows
  pub written : text ≡ rows ++ verdict_lines (is_met (map (outcome_of_row target) samples)) expectations
  pub all : met ≡ are_met (is_met (map (outcome_of_row target) samples)) expectations

-- The answer: the first refusal of the input, or what is written of its program and its expectations.
pub data IsLitmusSession (input : Text) (seed seeds steps : ℕ) (answer : LitmusAnswer) : Type 0 where
  unread : (r : Refusal LitmusRule) → IsFirstLitmusRefusal false input r → answer ≡ Refused r.rule r.line r.column → IsLitmusSession input seed seeds steps answer
  judged : (p : Program) (expectations : List Expected) (text : Text) (met : Bool) → ReadsLitmus false input p expectations → IsJudgedTable p expectations seed seeds steps text met
      → answer ≡ Judged text met → IsLitmusSession input seed seeds steps answer
