-- `check` and `replay` have one output for an input, and `check` has one.
use Rattle.std.proofs.Common.{◌≡◌, ◌∙◌, ◌⊎◌, ℕ, List, inl, inr, refl, sym, ap, subst}
use Rattle.values_undef.specs.declared.journal.Entry.{Entry}
use Rattle.values_undef.specs.declared.journal.Ending.{Ending}
use Rattle.values_undef.specs.declared.journal.Ending.TheVariants as ending
use Rattle.il_syntax.specs.declared.program.Program.{Program}
use Rattle.il_grammar.specs.declared.rule.Rule.{Rule}
use Rattle.il_reader.specs.Refusal.{Refusal}
use Rattle.il_grammar.specs.Rule.{rule_word}
use Rattle.il_parser.specs.Text.{SpellsProgram, IsFirstRefusal}
use Rattle.il_parser.proofs.Callers.{each_answer, one_first, spelled_unrefused}
use Rattle.replay.specs.declared.verdict.Verdict.{Verdict}
use Rattle.replay.specs.declared.verdict.Verdict.TheVariants.{Run, NotAStep}
use Rattle.replay.specs.Verdicts.{IsVerdict}
use Rattle.replay.proofs.Callers.{no_journal_lacks_a_verdict, verdicts_one}
use Rattle.replay_text.specs.declared.fault.TextRule.{TextRule}
use Rattle.replay_text.specs.Refusal.{text_rule_word}
use Rattle.replay_text.specs.Reading.{ReadsReplay, IsFirstTextRefusal}
use Rattle.replay_text.proofs.Callers.{each_input, one_refusal, one_replay, replay_unrefused}
use Rattle.tool.specs.declared.status.Status.{Status}
use Rattle.tool.specs.declared.status.Status.TheVariants as status
use Rattle.tool.specs.Refusals.{IsTextRefusal, refusal_line}
use Rattle.tool.specs.Check.{IsAcceptance, IsCheckOutput, accepted_line}
use Rattle.tool.specs.Replay.{IsVerdictOutput, IsJudgement, IsReplayRefusal, IsReplayOutput, run_line, other_ending_line, no_entry_line}
use Rattle.tool.specs.Laws.{ChecksHaveAnOutput, ChecksHaveOneOutput, NoInputLacksAReplay, ReplaysHaveOneOutput}

pub checks_have_an_output : ChecksHaveAnOutput
checks_have_an_output bytes = go (each_answer bytes)
  where
    go : ((p : Program) × SpellsProgram bytes p) ⊎ ((r : Refusal Rule) × IsFirstRefusal bytes r) → (out : List ℕ) × (s : Status) × IsCheckOutput bytes out s
    go (inl x) = (accepted_line, status.Done, inl (record { program = x.0; spelled = x.1; written = refl; status = refl }))
    go (inr x) = (refusal_line (rule_word x.0.rule) x.0.line x.0.column, status.Input, inr (record { refusal = x.0; first = x.1; written = refl; status = refl }))

abbrev pub SameOutput : (one other : List ℕ) → (s t : Status) → Type 0
SameOutput one other s t = (one ≡ other) × (s ≡ t)

pub text_refused_once : (bytes one other : List ℕ) (s t : Status) → IsTextRefusal bytes one s → IsTextRefusal bytes other t → SameOutput one other s t
text_refused_once bytes one other s t x y =
    let same = one_first bytes x.refusal y.refusal x.first y.first in
    (x.written ∙ ap (λ (r : Refusal Rule). refusal_line (rule_word r.rule) r.line r.column) same ∙ sym y.written, x.status ∙ sym y.status)

pub checks_have_one_output : ChecksHaveOneOutput
checks_have_one_output bytes one other s t (inl x) (inl y) = (x.written ∙ sym y.written, x.status ∙ sym y.status)
checks_have_one_output bytes one other s t (inl x) (inr y) = absurd (spelled_unrefused bytes x.program y.refusal x.spelled y.first)
checks_have_one_output bytes one other s t (inr x) (inl y) = absurd (spelled_unrefused bytes y.program x.refusal y.spelled x.first)
checks_have_one_output bytes one other s t (inr x) (inr y) = text_refused_once bytes one other s t x y

verdict_told_once : (given : Ending) (v : Verdict) (one other : List ℕ) (s t : Status) → IsVerdictOutput given v one s → IsVerdictOutput given v other t → SameOutput one other s t
verdict_told_once given (Run e) one other s t (inl x) (inl y) = (x.1 ∙ sym y.1, x.2 ∙ sym y.2)
verdict_told_once given (Run e) one other s t (inl x) (inr y) = absurd (y.0 x.0)
verdict_told_once given (Run e) one other s t (inr x) (inl y) = absurd (x.0 y.0)
verdict_told_once given (Run e) one other s t (inr x) (inr y) = (x.1 ∙ sym y.1, x.2 ∙ sym y.2)
verdict_told_once given (NotAStep k w) one other s t x y = (x.0 ∙ sym y.0, x.1 ∙ sym y.1)

judged_once : (bytes one other : List ℕ) (s t : Status) → IsJudgement bytes one s → IsJudgement bytes other t → SameOutput one other s t
judged_once bytes one other s t x y =
    let same = one_replay bytes x.program y.program x.entries y.entries x.ending y.ending x.reads y.reads in
    let judged : IsVerdict x.program x.entries y.verdict = subst (λ (q : Program). IsVerdict q x.entries y.verdict) (sym same.0) (subst (λ (ks : List Entry). IsVerdict y.program ks y.verdict) (sym same.1) y.judged) in
    let verdict : y.verdict ≡ x.verdict = verdicts_one x.program x.entries y.verdict x.verdict judged x.judged in
    verdict_told_once x.ending x.verdict one other s t x.output
    (subst (λ (given : Ending). IsVerdictOutput given x.verdict other t) (sym same.2) (subst (λ (v : Verdict). IsVerdictOutput y.ending v other t) verdict y.output))

pub replay_refused_once : (bytes one other : List ℕ) (s t : Status) → IsReplayRefusal bytes one s → IsReplayRefusal bytes other t → SameOutput one other s t
replay_refused_once bytes one other s t x y =
    let same = one_refusal bytes x.refusal y.refusal x.first y.first in
    (x.written ∙ ap (λ (r : Refusal TextRule). refusal_line (text_rule_word r.rule) r.line r.column) same ∙ sym y.written, x.status ∙ sym y.status)

pub replays_have_one_output : ReplaysHaveOneOutput
replays_have_one_output bytes one other s t (inl x) (inl y) = judged_once bytes one other s t x y
replays_have_one_output bytes one other s t (inl x) (inr y) = absurd (replay_unrefused bytes x.program x.entries x.ending y.refusal x.reads y.first)
replays_have_one_output bytes one other s t (inr x) (inl y) = absurd (replay_unrefused bytes y.program y.entries y.ending x.refusal y.reads x.first)
replays_have_one_output bytes one other s t (inr x) (inr y) = replay_refused_once bytes one other s t x y

-- ---- no input lacks an output

pub same_ending : (e f : Ending) → (e ≡ f) ⊎ (e ≡ f → ⊥)
same_ending ending.Done ending.Done = inl refl
same_ending ending.Failed ending.Failed = inl refl
same_ending ending.Spent ending.Spent = inl refl
same_ending ending.Done ending.Failed = inr (λ (q : ending.Done ≡ ending.Failed). cc)
same_ending ending.Done ending.Spent = inr (λ (q : ending.Done ≡ ending.Spent). cc)
same_ending ending.Failed ending.Done = inr (λ (q : ending.Failed ≡ ending.Done). cc)
same_ending ending.Failed ending.Spent = inr (λ (q : ending.Failed ≡ ending.Spent). cc)
same_ending ending.Spent ending.Done = inr (λ (q : ending.Spent ≡ ending.Done). cc)
same_ending ending.Spent ending.Failed = inr (λ (q : ending.Spent ≡ ending.Failed). cc)

verdict_told : (given : Ending) (v : Verdict) → (out : List ℕ) × (s : Status) × IsVerdictOutput given v out s
verdict_told given (NotAStep k w) = (no_entry_line k w, status.No, (refl, refl))
verdict_told given (Run e) = go (same_ending e given)
  where
    go : (e ≡ given) ⊎ (e ≡ given → ⊥) → (out : List ℕ) × (s : Status) × IsVerdictOutput given (Run e) out s
    go (inl same) = (run_line e, status.Done, inl (same, refl, refl))
    go (inr other) = (other_ending_line e, status.No, inr (other, refl, refl))

pub no_input_lacks_a_replay : NoInputLacksAReplay
no_input_lacks_a_replay bytes none = go (each_input bytes)
  where
    of_verdict : (p : Program) (es : List Entry) (e : Ending) → ReadsReplay bytes p es e → (v : Verdict) → IsVerdict p es v → ⊥
    of_verdict p es e reads v judged =
        let told = verdict_told e v in
        none told.0 told.1 (inl (record { program = p; entries = es; ending = e; verdict = v; reads = reads; judged = judged; output = told.2 }))

    go : ((p : Program) × (es : List Entry) × (e : Ending) × ReadsReplay bytes p es e) ⊎ ((r : Refusal TextRule) × IsFirstTextRefusal bytes r) → ⊥
    go (inl x) = no_journal_lacks_a_verdict x.0 x.1 (of_verdict x.0 x.1 x.2 x.3)
    go (inr x) =
        none (refusal_line (text_rule_word x.0.rule) x.0.line x.0.column) status.Input (inr (record { refusal = x.0; first = x.1; written = refl; status = refl }))
