-- `litmus`: the outcomes of many seeds, and whether what is expected of them is met.
use Rattle.std.specs.Prelude.{◌≡◌, ◌⊎◌, ℕ, Bool, true, false, List, Some}
use Rattle.il_syntax.specs.declared.program.Program.{Program}
use Rattle.il_reader.specs.Refusal.{Refusal}
use Rattle.litmus_text.specs.Expectation.{Expected}
use Rattle.litmus_text.specs.Reading.{ReadsLitmus, IsFirstLitmusRefusal}
use Rattle.litmus_text.specs.Refusals.{litmus_rule_word}
use Rattle.litmus_text.specs.declared.fault.LitmusRule.{LitmusRule}
use Rattle.litmus_session.specs.Session.{HasLitmusCondition, IsLitmusSession}
use Rattle.litmus_session.specs.declared.answer.LitmusAnswer.{LitmusAnswer}
use Rattle.litmus_session.specs.declared.answer.LitmusAnswer.TheVariants.{Refused, Judged}
use Rattle.tool.specs.declared.status.Status.{Status}
use Rattle.tool.specs.declared.status.Status.TheVariants as status
use Rattle.tool.specs.Meaning.{CommandMeaning}
use Rattle.tool.specs.Refusals.{refusal_line, text_limit}

-- all expectations are met, or one isn't
abbrev pub verdict_status : Bool → Status
verdict_status true = status.Done
verdict_status false = status.No

-- What is written of an answer: the line of a refusal, or the outcomes and the verdicts.
abbrev pub IsWrittenLitmus : LitmusAnswer → List ℕ → Status → Type 0
IsWrittenLitmus (Refused rule line column) out result = (out ≡ refusal_line (litmus_rule_word rule) line column) × (result ≡ status.Input)
IsWrittenLitmus (Judged text met) out result = (out ≡ text) × (result ≡ verdict_status met)

-- The output is what is written of the answer to the input, by runs of so many seeds.
pub record IsLitmusOutput (seed seeds steps : ℕ) (bytes out : List ℕ) (result : Status) : Type 0 where
  pub answer : LitmusAnswer
  pub answers : IsLitmusSession bytes seed seeds steps answer
  pub written : IsWrittenLitmus answer out result

abbrev pub litmus_meaning : ℕ → ℕ → ℕ → CommandMeaning
litmus_meaning seed seeds steps = record {
  waits = false;
  reports = false;
  limit = Some text_limit;
  condition = HasLitmusCondition seed seeds steps;
  output = IsLitmusOutput seed seeds steps;
  accepted = λ bytes. (p : Program) × (expectations : List Expected) × ReadsLitmus false bytes p expectations;
  refused = λ bytes. (r : Refusal LitmusRule) × IsFirstLitmusRefusal false bytes r;
  works = λ s. (s ≡ status.Done) ⊎ ((s ≡ status.No) ⊎ (s ≡ status.NoMemory));
}
