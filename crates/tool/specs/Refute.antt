-- `refute`: whether all outcomes of a target within a budget are its source's, and else one that isn't.
use Rattle.std.specs.Prelude.{◌≡◌, ◌⊎◌, ℕ, false, List, Some, codes}
use Rattle.il_syntax.specs.declared.program.Program.{Program}
use Rattle.il_reader.specs.Refusal.{Refusal}
use Rattle.pair_text.specs.Reading.{ReadsPair, IsFirstPairRefusal}
use Rattle.pair_text.specs.Refusals.{pair_rule_word}
use Rattle.pair_text.specs.declared.fault.PairRule.{PairRule}
use Rattle.outcomes_session.specs.Session.{HasOutcomesCondition}
use Rattle.refute_session.specs.Session.{IsRefuteSession}
use Rattle.refute_session.specs.declared.answer.RefuteAnswer.{RefuteAnswer}
use Rattle.refute_session.specs.declared.answer.RefuteAnswer.TheVariants.{Refused, OtherShape, TooMany, Refines, Missed, Unknown}
use Rattle.tool.specs.declared.status.Status.{Status}
use Rattle.tool.specs.declared.status.Status.TheVariants as status
use Rattle.tool.specs.Meaning.{CommandMeaning}
use Rattle.tool.specs.Refusals.{refusal_line}
use Rattle.tool.specs.Validate.{other_shape_line}

abbrev pub refines_line : List ℕ
refines_line = codes "refines\n"

-- What is written of an answer: the line of a refusal, which is that of rule `S` where a program has more nodes than the search may
-- come to; that of other shapes, as `validate` writes it; that nothing is missed; or the outcome that is.
abbrev pub IsWrittenRefute : RefuteAnswer → List ℕ → Status → Type 0
IsWrittenRefute (Refused rule line column) out result = (out ≡ refusal_line (pair_rule_word rule) line column) × (result ≡ status.Input)
IsWrittenRefute OtherShape out result = (out ≡ other_shape_line) × (result ≡ status.No)
IsWrittenRefute TooMany out result = (out ≡ refusal_line (codes "S") 1 1) × (result ≡ status.Input)
IsWrittenRefute Refines out result = (out ≡ refines_line) × (result ≡ status.Done)
IsWrittenRefute (Missed text) out result = (out ≡ text) × (result ≡ status.No)
IsWrittenRefute (Unknown text) out result = (out ≡ text) × (result ≡ status.Done)

-- The output is what is written of the answer to the input.
pub record IsRefuteOutput (steps states : ℕ) (bytes out : List ℕ) (result : Status) : Type 0 where
  pub answer : RefuteAnswer
  pub answers : IsRefuteSession bytes steps states answer
  pub written : IsWrittenRefute answer out result

abbrev pub refute_meaning : ℕ → ℕ → CommandMeaning
refute_meaning steps states = record {
  waits = false;
  reports = false;
  limit = Some 4194304;
  condition = HasOutcomesCondition steps states;
  output = IsRefuteOutput steps states;
  accepted = λ bytes. (source : Program) × (target : Program) × ReadsPair bytes source target;
  refused = λ bytes. (r : Refusal PairRule) × IsFirstPairRefusal bytes r;
  works = λ s. (s ≡ status.Done) ⊎ ((s ≡ status.No) ⊎ ((s ≡ status.Input) ⊎ (s ≡ status.NoMemory)));
}
