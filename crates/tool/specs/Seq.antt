-- `seq`: a function of a source and of its target, played together through the events of an environment.
use Rattle.std.specs.Prelude.{◌≡◌, ◌⊎◌, ℕ, false, List, Some}
use Rattle.seq_text.specs.Refusals.{seq_rule_word}
use Rattle.seq_session.specs.Session.{IsSeqAnswer}
use Rattle.seq_session.specs.declared.answer.SeqAnswer.{SeqAnswer}
use Rattle.seq_session.specs.declared.answer.SeqAnswer.TheVariants.{Refused, OtherShape, RefusedFunction, Played}
use Rattle.tool.specs.declared.status.Status.{Status}
use Rattle.tool.specs.declared.status.Status.TheVariants as status
use Rattle.tool.specs.Meaning.{CommandMeaning}
use Rattle.tool.specs.Refusals.{refusal_line}
use Rattle.tool.specs.Validate.{other_shape_line, refused_function_line}

-- What is written of an answer: the lines of a refusal and of a verdict are those of the other commands, and the trace
-- stands alone.
abbrev pub IsWrittenAnswer : SeqAnswer → List ℕ → Status → Type 0
IsWrittenAnswer (Refused rule line column) out result = (out ≡ refusal_line (seq_rule_word rule) line column) × (result ≡ status.Input)
IsWrittenAnswer OtherShape out result = (out ≡ other_shape_line) × (result ≡ status.No)
IsWrittenAnswer (RefusedFunction function site why) out result = (out ≡ refused_function_line function site why) × (result ≡ status.No)
IsWrittenAnswer (Played text) out result = (out ≡ text) × (result ≡ status.Done)

-- The output is what is written of the answer to the input and the function's name.
pub record IsSeqOutput (name bytes out : List ℕ) (result : Status) : Type 0 where
  pub answer : SeqAnswer
  pub answers : IsSeqAnswer bytes name answer
  pub written : IsWrittenAnswer answer out result

-- an answer by which the input isn't refused, and one by which it is

abbrev pub IsAnswered : SeqAnswer → Type 0
IsAnswered (Refused rule line column) = ⊥
IsAnswered OtherShape = Unit {0}
IsAnswered (RefusedFunction function site why) = Unit {0}
IsAnswered (Played text) = Unit {0}

abbrev pub IsRefused : SeqAnswer → Type 0
IsRefused (Refused rule line column) = Unit {0}
IsRefused OtherShape = ⊥
IsRefused (RefusedFunction function site why) = ⊥
IsRefused (Played text) = ⊥

abbrev pub seq_meaning : List ℕ → CommandMeaning
seq_meaning name = record {
  waits = false;
  reports = false;
  limit = Some 4194304;
  condition = Unit {0};
  output = IsSeqOutput name;
  accepted = λ bytes. (a : SeqAnswer) × IsSeqAnswer bytes name a × IsAnswered a;
  refused = λ bytes. (a : SeqAnswer) × IsSeqAnswer bytes name a × IsRefused a;
  works = λ s. (s ≡ status.Done) ⊎ ((s ≡ status.No) ⊎ (s ≡ status.NoMemory));
}
