-- An input and a name have one answer.
use Rattle.std.specs.Prelude.{◌≡◌, ℕ, List, Some}
use Rattle.text_parts.specs.Lines.{Text}
use Rattle.il_syntax.specs.declared.program.Program.{Program}
use Rattle.validator.specs.declared.fault.Fault.{Fault}
use Rattle.validator.specs.Shape.{SameShape}
use Rattle.seq_pair.specs.declared.event.EnvEvent.{EnvEvent}
use Rattle.seq_pair.specs.Laws.{IsAcceptedPair}
use Rattle.seq_text.specs.Reading.{ReadsSession}
use Rattle.seq_session.specs.declared.answer.SeqAnswer.{SeqAnswer}
use Rattle.seq_session.specs.Session.{function_number, IsRefusedPair, IsSeqAnswer}

abbrev pub SessionsHaveOneAnswer : Type 0
SessionsHaveOneAnswer = (input name : Text) (a b : SeqAnswer) → IsSeqAnswer input name a → IsSeqAnswer input name b → a ≡ b

-- the programs are of different shapes, or the function of this number is refused, or it is accepted
pub data HasVerdict (p q : Program) (f : ℕ) : Type 0 where
  is_of_other_shape : (SameShape p q → ⊥) → HasVerdict p q f
  is_refused : (site : ℕ) (why : Fault) → IsRefusedPair p q f site why → HasVerdict p q f
  is_accepted : IsAcceptedPair p q f → HasVerdict p q f

-- where the function of the name has a verdict, there is an answer
abbrev pub SessionsHaveAnAnswer : Type 0
SessionsHaveAnAnswer = (input name : Text)
    → ((p q : Program) (events : List EnvEvent) (line f : ℕ) → ReadsSession input p q events line → function_number p.functions name ≡ Some f → HasVerdict p q f)
    → (a : SeqAnswer) × IsSeqAnswer input name a
