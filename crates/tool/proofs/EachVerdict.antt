-- Each input of `validate`, of `seq` and of `opt` has an output, since each pair of functions is judged, each pair of programs
-- has a verdict, and each program has a chain.
use Rattle.std.proofs.Common.{◌≡◌, ◌⊎◌, ◌<◌, ◌≤◌, ℕ, Bool, true, false, cond, nat_lt, List, length, get_or, Option, Some, None, inl, inr, refl, arith}
use Rattle.std.specs.Prelude.{position}
use Rattle.std.specs.Str.{bytes_eq}
use Rattle.std.specs.List.{position_or_len}
use Rattle.std.proofs.lemmas.Bool.Decides.{nat_tests}
use Rattle.std.proofs.lemmas.Option.{slice_get_cases}
use Rattle.std.proofs.lemmas.Slice.Zip.{AllZip-long}
use Rattle.il_syntax.specs.declared.program.Function.{Function}
use Rattle.il_syntax.specs.declared.program.Program.{Program}
use Rattle.il_syntax.specs.WellFormed.{IsWellFormed}
use Rattle.il_grammar.specs.declared.rule.Rule.{Rule}
use Rattle.il_grammar.specs.Rule.{rule_word}
use Rattle.il_syntax.specs.Text.{program_text}
use Rattle.il_parser.specs.Text.{SpellsProgram, IsFirstRefusal}
use Rattle.il_parser.proofs.Callers.{each_answer, spelled_well_formed}
use Rattle.completeness.specs.Chains.{EachProgramHasAChain}
use Rattle.pass_chain.specs.declared.chains.ProgramChain.{ProgramChain}
use Rattle.pass_chain.specs.Chain.{IsOptAll}
use Rattle.reports.specs.Targets.{target_program}
use Rattle.il_reader.specs.Refusal.{Refusal}
use Rattle.thread_core.specs.Programs.{function_at}
use Rattle.validator.specs.declared.fault.Judged.{Judged}
use Rattle.validator.specs.declared.fault.Judged.TheVariants.{Yes, No}
use Rattle.validator.specs.declared.programs.Verdict.{Verdict}
use Rattle.validator.specs.declared.programs.Verdict.TheVariants.{OtherShape, Refused, Accepted}
use Rattle.validator.specs.Faults.{IsJudged}
use Rattle.validator.specs.Laws.{EachPairIsJudged, EachPairHasAVerdict}
use Rattle.validator.specs.Programs.{IsProgramVerdict}
use Rattle.validator.specs.Shape.{SameShape, SameSignature}
use Rattle.pair_text.specs.declared.fault.PairRule.{PairRule}
use Rattle.pair_text.specs.Refusals.{pair_rule_word}
use Rattle.pair_text.specs.Reading.{ReadsPair, IsFirstPairRefusal}
use Rattle.pair_text.proofs.Callers.{each_pair}
use Rattle.seq_pair.specs.declared.event.EnvEvent.{EnvEvent}
use Rattle.seq_text.specs.Reading.{ReadsSession}
use Rattle.seq_text.specs.Refusals.{seq_rule_word}
use Rattle.seq_session.specs.declared.answer.SeqAnswer.{SeqAnswer}
use Rattle.seq_session.specs.declared.answer.SeqAnswer.TheVariants as answer
use Rattle.seq_session.specs.Laws.{HasVerdict, is_of_other_shape, is_refused, is_accepted, SessionsHaveAnAnswer}
use Rattle.seq_session.specs.Session.{function_number}
use Rattle.tool.specs.declared.status.Status.{Status}
use Rattle.tool.specs.declared.status.Status.TheVariants as status
use Rattle.tool.specs.Refusals.{refusal_line}
use Rattle.tool.specs.Validate.{accepted_pair_line, other_shape_line, refused_function_line, IsPairVerdict, other_shape, refused_function, accepted_pair, IsValidateOutput}
use Rattle.tool.specs.Seq.{IsWrittenAnswer}
use Rattle.tool.specs.Opt.{IsOptOutput}
use Rattle.tool.specs.Laws.{ValidatesHaveAnOutput, SeqsHaveAnOutput, OptsHaveAnOutput}

-- ---- two programs

told : (p q : Program) (v : Verdict) → IsProgramVerdict p q v → (out : List ℕ) × (s : Status) × IsPairVerdict p q out s
told p q OtherShape h = (other_shape_line, status.No, other_shape h refl refl)
told p q (Refused k site why) h = (refused_function_line k site why, status.No, refused_function k site why h.0 h.1 refl refl)
told p q Accepted h = (accepted_pair_line, status.Done, accepted_pair h refl refl)

pub validates_have_an_output : EachPairHasAVerdict → ValidatesHaveAnOutput
validates_have_an_output verdicts bytes = go (each_pair bytes)
  where
    of_verdict : (p q : Program) → ReadsPair bytes p q → (v : Verdict) → IsProgramVerdict p q v → (out : List ℕ) × (s : Status) × IsValidateOutput bytes out s
    of_verdict p q reads v h = let t = told p q v h in (t.0, t.1, inl (record { source = p; target = q; reads = reads; verdict = t.2 }))

    go : ((p : Program) × (q : Program) × ReadsPair bytes p q) ⊎ ((r : Refusal PairRule) × IsFirstPairRefusal bytes r) → (out : List ℕ) × (s : Status) × IsValidateOutput bytes out s
    go (inl x) = let v = verdicts x.0 x.1 in of_verdict x.0 x.1 x.2 v.0 v.1
    go (inr x) = (refusal_line (pair_rule_word x.0.rule) x.0.line x.0.column, status.Input, inr (record { refusal = x.0; first = x.1; written = refl; status = refl }))

-- ---- a function of two programs

position_below : {A : Type 0} (p : A → Bool) (xs : List A) (n : ℕ) → position p xs ≡ Some n → n < length xs
position_below p xs n e = go (nat_lt (position_or_len p xs) (length xs)) refl e
  where
    go : (b : Bool) → nat_lt (position_or_len p xs) (length xs) ≡ b → cond b (Some (position_or_len p xs)) None ≡ Some n → n < length xs
    go true less is = let same : position_or_len p xs ≡ n = cc in grind (arith, nat_tests)
    go false less is = absurd cc

there : (p : Program) (f : ℕ) → f < length p.functions → (g : Function) × (function_at p f ≡ Some g)
there p f below = go (slice_get_cases p.functions f).1
  where
    go : ((g : Function) × (f < length p.functions) × (function_at p f ≡ Some g) × (get_or p.functions f g ≡ g)) ⊎ ((length p.functions ≤ f) × (function_at p f ≡ None)) → (g : Function) × (function_at p f ≡ Some g)
    go (inl x) = (x.0, x.2)
    go (inr x) = absurd (omega (arith, below, x.0))

module _ (p q : Program) (f : ℕ) (source_formed : IsWellFormed p) (target_formed : IsWellFormed q) where
  of_judged : (g h : Function) → SameShape p q → function_at p f ≡ Some g → function_at q f ≡ Some h → (j : Judged) → IsJudged g h j → HasVerdict p q f
  of_judged g h shape source target Yes judged = is_accepted (record {
    source_well_formed = source_formed;
    target_well_formed = target_formed;
    shape = shape;
    source = g;
    target = h;
    source_there = source;
    target_there = target;
    accepts = judged;
  })
  of_judged g h shape source target (No site why) judged = is_refused site why (record { shape = shape; source = g; target = h; source_there = source; target_there = target; first = judged })

  of_shape : EachPairIsJudged → f < length p.functions → SameShape p q → HasVerdict p q f
  of_shape judged below shape =
      let g = there p f below in
      let h = there q f (let long = AllZip-long SameSignature p.functions q.functions shape.functions in omega (arith, below, long)) in
      let j = judged g.0 h.0 in
      of_judged g.0 h.0 shape g.1 h.1 j.0 j.1

  has_verdict : EachPairIsJudged → f < length p.functions → (v : Verdict) → IsProgramVerdict p q v → HasVerdict p q f
  has_verdict judged below OtherShape h = is_of_other_shape h
  has_verdict judged below (Refused k site why) h = of_shape judged below h.0
  has_verdict judged below Accepted h = of_shape judged below h.shape

written : (a : SeqAnswer) → (out : List ℕ) × (s : Status) × IsWrittenAnswer a out s
written (answer.Refused rule line column) = (refusal_line (seq_rule_word rule) line column, status.Input, (refl, refl))
written answer.OtherShape = (other_shape_line, status.No, (refl, refl))
written (answer.RefusedFunction function site why) = (refused_function_line function site why, status.No, (refl, refl))
written (answer.Played text) = (text, status.Done, (refl, refl))

pub seqs_have_an_output : EachPairIsJudged → EachPairHasAVerdict → SessionsHaveAnAnswer → SeqsHaveAnOutput
seqs_have_an_output judged verdicts answers name bytes =
    let a = answers bytes name has in
    let w = written a.0 in
    (w.0, w.1, record { answer = a.0; answers = a.1; written = w.2 })
  where
    has : (p q : Program) (events : List EnvEvent) (line f : ℕ) → ReadsSession bytes p q events line → function_number p.functions name ≡ Some f → HasVerdict p q f
    has p q events line f reads named =
        let v = verdicts p q in
        has_verdict p q f (spelled_well_formed reads.source_text p reads.spelled.source_spelled) (spelled_well_formed reads.target_text q reads.spelled.target_spelled) judged
        (position_below (λ (g : Function). bytes_eq g.name name) p.functions f named) v.0 v.1

-- ---- a program

pub opts_have_an_output : EachProgramHasAChain → OptsHaveAnOutput
opts_have_an_output chains bytes = go (each_answer bytes)
  where
    of_chain : (p : Program) → SpellsProgram bytes p → (c : ProgramChain) → IsOptAll p c → (out : List ℕ) × (s : Status) × IsOptOutput bytes out s
    of_chain p spelled c made = (
      program_text (target_program c),
      status.Done,
      inl (record { program = p; target = target_program c; spelled = spelled; optimised = record { chain = c; made = made; last = refl }; written = refl; status = refl }),
    )

    go : ((p : Program) × SpellsProgram bytes p) ⊎ ((r : Refusal Rule) × IsFirstRefusal bytes r) → (out : List ℕ) × (s : Status) × IsOptOutput bytes out s
    go (inl x) = let c = chains x.0 in of_chain x.0 x.1 c.0 c.1
    go (inr x) = (refusal_line (rule_word x.0.rule) x.0.line x.0.column, status.Input, inr (record { refusal = x.0; first = x.1; written = refl; status = refl }))
