-- `outcomes`: all outcomes of a program within a budget, and whether what is expected of them is met.
use Rattle.std.specs.Prelude.{◌≡◌, ◌⊎◌, ℕ, true, false, List, Some, codes}
use Rattle.il_syntax.specs.declared.program.Program.{Program}
use Rattle.il_reader.specs.Refusal.{Refusal}
use Rattle.litmus_text.specs.Expectation.{Expected}
use Rattle.litmus_text.specs.Reading.{ReadsLitmus, IsFirstLitmusRefusal}
use Rattle.litmus_text.specs.Refusals.{litmus_rule_word}
use Rattle.litmus_text.specs.declared.fault.LitmusRule.{LitmusRule}
use Rattle.outcomes_session.specs.Session.{HasOutcomesCondition, IsOutcomesSession}
use Rattle.outcomes_session.specs.declared.answer.OutcomesAnswer.{OutcomesAnswer}
use Rattle.outcomes_session.specs.declared.answer.OutcomesAnswer.TheVariants.{Refused, TooMany, Told}
use Rattle.tool.specs.declared.status.Status.{Status}
use Rattle.tool.specs.declared.status.Status.TheVariants as status
use Rattle.tool.specs.Litmus.{verdict_status}
use Rattle.tool.specs.Meaning.{CommandMeaning}
use Rattle.tool.specs.Refusals.{refusal_line, text_limit}

-- What is written of an answer: the line of a refusal, which is that of rule `S` where the program has more nodes than the search
-- may come to; or the outcomes and the verdicts.
abbrev pub IsWrittenOutcomes : OutcomesAnswer → List ℕ → Status → Type 0
IsWrittenOutcomes (Refused rule line column) out result = (out ≡ refusal_line (litmus_rule_word rule) line column) × (result ≡ status.Input)
IsWrittenOutcomes TooMany out result = (out ≡ refusal_line (codes "S") 1 1) × (result ≡ status.Input)
IsWrittenOutcomes (Told text met) out result = (out ≡ text) × (result ≡ verdict_status met)

-- The output is what is written of the answer to the input.
pub record IsOutcomesOutput (steps states : ℕ) (bytes out : List ℕ) (result : Status) : Type 0 where
  pub answer : OutcomesAnswer
  pub answers : IsOutcomesSession bytes steps states answer
  pub written : IsWrittenOutcomes answer out result

abbrev pub outcomes_meaning : ℕ → ℕ → CommandMeaning
outcomes_meaning steps states = record {
  waits = false;
  reports = false;
  limit = Some text_limit;
  condition = HasOutcomesCondition steps states;
  output = IsOutcomesOutput steps states;
  accepted = λ bytes. (p : Program) × (expectations : List Expected) × ReadsLitmus true bytes p expectations;
  refused = λ bytes. (r : Refusal LitmusRule) × IsFirstLitmusRefusal true bytes r;
  works = λ s. (s ≡ status.Done) ⊎ ((s ≡ status.No) ⊎ ((s ≡ status.Input) ⊎ (s ≡ status.NoMemory)));
}
