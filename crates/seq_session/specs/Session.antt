-- What `seq` answers to an input and the name of a function: refusals of the input, the function, the verdict on it, and then
-- what comes of the events.
use Rattle.std.specs.Prelude.{◌≡◌, ◌+◌, ℕ, List, Option, Some, None, position}
use Rattle.std.specs.Str.{bytes_eq}
use Rattle.il_syntax.specs.declared.program.Function.{Function}
use Rattle.il_syntax.specs.declared.program.Program.{Program}
use Rattle.thread_core.specs.Programs.{function_at}
use Rattle.validator.specs.declared.fault.Fault.{Fault}
use Rattle.validator.specs.Faults.{IsFirstFault}
use Rattle.validator.specs.Shape.{SameShape}
use Rattle.text_parts.specs.Lines.{Text}
use Rattle.seq_pair.specs.declared.event.EnvEvent.{EnvEvent}
use Rattle.seq_pair.specs.declared.trace.PairTrace.{PairTrace}
use Rattle.seq_pair.specs.Answers.{IsTraceOf, IsUnlawfulAt}
use Rattle.seq_pair.specs.Laws.{IsAcceptedPair}
use Rattle.il_reader.specs.Refusal.{Refusal, line_refusal}
use Rattle.seq_text.specs.declared.fault.SeqRule.{SeqRule}
use Rattle.seq_text.specs.declared.fault.SeqRule.TheVariants.{E, F}
use Rattle.seq_text.specs.Output.{trace_text}
use Rattle.seq_text.specs.Reading.{ReadsSession, IsFirstSessionRefusal}
use Rattle.seq_session.specs.declared.answer.SeqAnswer.{SeqAnswer}
use Rattle.seq_session.specs.declared.answer.SeqAnswer.TheVariants.{Refused, OtherShape, RefusedFunction, Played}

abbrev pub refused_by : Refusal SeqRule → SeqAnswer
refused_by r = Refused r.rule r.line r.column

-- the number of the function of a name
abbrev pub function_number : List Function → Text → Option ℕ
function_number functions name = position (λ f. bytes_eq f.name name) functions

-- The programs are of one shape, and the function of this number has its first fault at this site.
pub record IsRefusedPair (p q : Program) (f site : ℕ) (why : Fault) : Type 0 where
  pub shape : SameShape p q
  pub source : Function
  pub target : Function
  pub source_there : function_at p f ≡ Some source
  pub target_there : function_at q f ≡ Some target
  pub first : IsFirstFault source target site why

-- All events are lawful, and the text is that of the trace, whose labels match.
pub record IsPlay (p q : Program) (f : ℕ) (events : List EnvEvent) (text : Text) : Type 0 where
  pub trace : PairTrace
  pub played : IsTraceOf p q f events trace
  pub written : text ≡ trace_text p trace.labels trace.end

-- What is answered of a function of a source p and a target q, and of events of which the first is on this line.
pub data IsFunctionAnswer (p q : Program) (f : ℕ) (events : List EnvEvent) (line : ℕ) (a : SeqAnswer) : Type 0 where
  other_shape : (SameShape p q → ⊥) → a ≡ OtherShape → IsFunctionAnswer p q f events line a
  refused_function : (site : ℕ) (why : Fault) → IsRefusedPair p q f site why → a ≡ RefusedFunction f site why → IsFunctionAnswer p q f events line a
  unlawful : (at : ℕ) → IsAcceptedPair p q f → IsUnlawfulAt p q f events at → a ≡ refused_by (line_refusal E (line + at)) → IsFunctionAnswer p q f events line a
  played : (text : Text) → IsAcceptedPair p q f → IsPlay p q f events text → a ≡ Played text → IsFunctionAnswer p q f events line a

-- the same of the function of a name, which the source may lack
abbrev pub IsNamedAnswer : Program → Program → List EnvEvent → ℕ → Option ℕ → SeqAnswer → Type 0
IsNamedAnswer p q events line None a = a ≡ refused_by (line_refusal F 1)
IsNamedAnswer p q events line (Some f) a = IsFunctionAnswer p q f events line a

-- and of an input, which may be refused
pub data IsSeqAnswer (input name : Text) (a : SeqAnswer) : Type 0 where
  unread : (r : Refusal SeqRule) → IsFirstSessionRefusal input r → a ≡ refused_by r → IsSeqAnswer input name a
  read : (p q : Program) (events : List EnvEvent) (line : ℕ) → ReadsSession input p q events line
      → IsNamedAnswer p q events line (function_number p.functions name) a → IsSeqAnswer input name a
