-- The parts of answers.
use Rattle.std.proofs.Common.{◌≡◌, ◌∙◌, ◌+◌, ◌<◌, ◌≤◌, ℕ, Bool, true, false, nat_lt, List, length, get_or, take, Option, Some, Result, Ok, Err, refl, sym, ap, subst, arith}
use Rattle.std.specs.Prelude.{IfOk, position}
use Rattle.std.specs.Str.{bytes_eq}
use Rattle.std.proofs.lemmas.Bool.Decides.{nat_tests}
use Rattle.std.proofs.lemmas.List.{take_all}
use Rattle.std.proofs.lemmas.Option.{slice_get-get_or}
use Rattle.std.proofs.lemmas.Slice.Zip.{AllZip-long}
use Rattle.values_undef.specs.declared.no_memory.NoMemory.{NoMemory}
use Rattle.il_syntax.specs.declared.program.Function.{Function}
use Rattle.il_syntax.specs.declared.program.Program.{Program}
use Rattle.il_syntax.specs.Statements.{site_count}
use Rattle.il_syntax.specs.WellFormed.{IsWellFormed, declared_by}
use Rattle.il_syntax.proofs.Callers.{functions_well_formed, function_small}
use Rattle.thread_core.specs.Programs.{function_at}
use Rattle.validator.specs.declared.fault.Fault.{Fault}
use Rattle.validator.specs.declared.fault.Judged.{Judged}
use Rattle.validator.specs.declared.fault.Judged.TheVariants.{Yes, No}
use Rattle.validator.specs.Faults.{IsJudged}
use Rattle.validator.specs.Shape.{SameShape, SameSignature}
use Rattle.seq_pair.specs.declared.event.EnvEvent.{EnvEvent}
use Rattle.seq_pair.specs.declared.trace.PairFault.{PairFault}
use Rattle.seq_pair.specs.declared.trace.PairFault.TheVariants as pair_fault
use Rattle.seq_pair.specs.declared.trace.PairTrace.{PairTrace}
use Rattle.seq_pair.specs.Answers.{IsTraceOf, IsFaultOf, IsUnlawfulAt}
use Rattle.seq_pair.specs.Laws.{IsAcceptedPair}
use Rattle.seq_pair.specs.Pair.{Pair, Came, Unlawful, pair_run}
use Rattle.seq_text.specs.declared.fault.SeqRule.{SeqRule}
use Rattle.seq_text.specs.declared.fault.SeqRule.TheVariants.{E}
use Rattle.il_reader.specs.Refusal.{IfRefused, line_refusal}
use Rattle.il_reader.specs.declared.fault.InputFault.{InputFault}
use Rattle.il_reader.specs.declared.fault.InputFault.TheVariants as input_fault
use Rattle.seq_text.specs.Output.{trace_text}
use Rattle.seq_text.specs.Reading.{ReadsSession, IsFirstSessionRefusal}
use Rattle.text_parts.specs.Lines.{Text}
use Rattle.seq_session.specs.declared.answer.SeqAnswer.{SeqAnswer}
use Rattle.seq_session.specs.declared.answer.SeqAnswer.TheVariants.{Refused, RefusedFunction, Played}
use Rattle.seq_session.specs.Session.{refused_by, function_number, IsFunctionAnswer, refused_function, unlawful, played, IsNamedAnswer, IsSeqAnswer, unread, read}

module _ (p q : Program) (f : ℕ) (events : List EnvEvent) (line : ℕ) where
  pub trace_answered : (es : List EnvEvent) (trace : PairTrace) (text : Text) → es ≡ events → IsAcceptedPair p q f → IsTraceOf p q f es trace → text ≡ trace_text p trace.labels trace.end
      → IsFunctionAnswer p q f events line (Played text)
  trace_answered es trace text same accepted is written =
      played text accepted (record { trace = trace; played = subst (λ (xs : List EnvEvent). IsTraceOf p q f xs trace) same is; written = written }) refl

  pub fault_answered : (es : List EnvEvent) (fault : PairFault) (at : ℕ) → es ≡ events → IsAcceptedPair p q f → IsFaultOf p q f es fault → fault ≡ pair_fault.Event at
      → IsFunctionAnswer p q f events line (refused_by (line_refusal E (line + at)))
  fault_answered es fault at same accepted is event =
      unlawful at accepted (subst (λ (xs : List EnvEvent). IsUnlawfulAt p q f xs at) same (subst (λ (e : PairFault). IsFaultOf p q f es e) event is)) refl

-- a function of two programs of one shape
pub target_there : (p q : Program) (f : ℕ) → SameShape p q → f < length p.functions → f < length q.functions
target_there p q f shape below = omega (arith, below, AllZip-long SameSignature p.functions q.functions shape.functions)

pub small_function : (q : Program) (f : ℕ) (g : Function) → IsWellFormed q → f < length q.functions → function_at q f ≡ Some g → site_count g.body.statements ≤ 4096
small_function q f g formed below there =
    let at : ◌≡◌ {A = Option Function} (Some (get_or q.functions f g)) (Some g) = sym (slice_get-get_or q.functions f g below) ∙ there in
    let same : get_or q.functions f g ≡ g = cc in
    subst (λ (h : Function). site_count h.body.statements ≤ 4096) same (function_small (declared_by q) (get_or q.functions f g) (functions_well_formed q formed f g below)).statements

module _ (p q : Program) (f : ℕ) (g h : Function) (shape : SameShape p q) (source_there : function_at p f ≡ Some g) (target_there : function_at q f ≡ Some h) (j : Judged) (judged : IsJudged g h j) where
  pub accepted_pair : IsWellFormed p → IsWellFormed q → j ≡ Yes → IsAcceptedPair p q f
  accepted_pair source_formed target_formed is = record {
    source_well_formed = source_formed;
    target_well_formed = target_formed;
    shape = shape;
    source = g;
    target = h;
    source_there = source_there;
    target_there = target_there;
    accepts = subst (λ (k : Judged). IsJudged g h k) is judged;
  }

  pub refusal_answered : (events : List EnvEvent) (line site : ℕ) (why : Fault) → j ≡ No site why → IsFunctionAnswer p q f events line (RefusedFunction f site why)
  refusal_answered events line site why is =
      refused_function site why (record {
        shape = shape;
        source = g;
        target = h;
        source_there = source_there;
        target_there = target_there;
        first = subst (λ (k : Judged). IsJudged g h k) is judged;
      }) refl

-- a function of a name
pub named_answered : {X : Type 0} (p q : Program) (events : List EnvEvent) (line : ℕ) (number : Option ℕ) (f : ℕ) (r : Result SeqAnswer X) → number ≡ Some f → IfOk r (λ a. IsFunctionAnswer p q f events line a)
    → IfOk r (λ a. IsNamedAnswer p q events line number a)
named_answered p q events line number f r is h = subst (λ (n : Option ℕ). IfOk r (λ a. IsNamedAnswer p q events line n a)) (sym is) h

-- an input
pub read_answered : {X : Type 0} (input name : Text) (p q : Program) (events : List EnvEvent) (line : ℕ) (r : Result SeqAnswer X) → ReadsSession input p q events line
    → IfOk r (λ a. IsNamedAnswer p q events line (function_number p.functions name) a) → IfOk r (λ a. IsSeqAnswer input name a)
read_answered input name p q events line (Ok a) reads h = read p q events line reads h
read_answered input name p q events line (Err e) reads h = tt

pub refused_answered : (input name : Text) (fault : InputFault SeqRule) (rule : SeqRule) (line column : ℕ) → IfRefused fault (λ r. IsFirstSessionRefusal input r) → fault ≡ input_fault.Refused rule line column
    → IsSeqAnswer input name (Refused rule line column)
refused_answered input name fault rule line column is refused =
    unread (record { rule = rule; line = line; column = column }) (subst (λ (e : InputFault SeqRule). IfRefused e (λ r. IsFirstSessionRefusal input r)) refused is) refl
