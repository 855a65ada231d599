-- An answer is fixed by the input but for source journals.
use Rattle.std.proofs.Common.{◌≡◌, ◌∙◌, ◌++◌, ℕ, Bool, false, List, map, sym, ap, ap₂, subst}
use Rattle.il_syntax.specs.declared.program.Program.{Program}
use Rattle.il_reader.specs.Refusal.{Refusal}
use Rattle.text_parts.specs.Lines.{Text}
use Rattle.pass_chain.proofs.Callers.{opt_all_is_one}
use Rattle.reports.specs.Targets.{IsOptimised, target_program}
use Rattle.litmus.specs.Outcome.{EndAndOutputs}
use Rattle.litmus.specs.Table.{IsOutcomeTable}
use Rattle.litmus.specs.declared.table.Sample.{Sample}
use Rattle.litmus.proofs.Callers.{one_table}
use Rattle.litmus_text.specs.Expectation.{Expected}
use Rattle.litmus_text.specs.Output.{are_met, is_met, verdict_lines}
use Rattle.litmus_text.specs.declared.fault.LitmusRule.{LitmusRule}
use Rattle.litmus_text.proofs.Callers.{input_unrefused, one_input, one_refusal}
use Rattle.litmus_session.specs.Laws.{AgreesButForSources, VerdictsAreFixed, same, same_table}
use Rattle.litmus_session.specs.Session.{AreRowsText, IsJudgedTable, judged, outcome_of_row, unread}
use Rattle.litmus_session.specs.declared.answer.LitmusAnswer.{LitmusAnswer}
use Rattle.litmus_session.specs.declared.answer.LitmusAnswer.TheVariants.{Judged, Refused}

one_target : (p one other : Program) → IsOptimised p one → IsOptimised p other → one ≡ other
one_target p one other x y = x.last ∙ ap target_program (opt_all_is_one p x.chain y.chain x.made y.made) ∙ sym y.last

-- two judgements of one program and its expectations
judged_alike : (p : Program) (es : List Expected) (seed seeds steps : ℕ) (text other_text : Text) (met other_met : Bool) (answer other : LitmusAnswer) → IsJudgedTable p es seed seeds steps text met
    → IsJudgedTable p es seed seeds steps other_text other_met → answer ≡ Judged text met → other ≡ Judged other_text other_met → AgreesButForSources answer other
judged_alike p es seed seeds steps text other_text met other_met answer other x y is other_is =
    let targets = one_target p x.target y.target x.optimised y.optimised in
    let table : IsOutcomeTable y.target seed seeds steps x.samples = subst (λ (q : Program). IsOutcomeTable q seed seeds steps x.samples) targets x.table in
    let samples = one_table y.target seed seeds steps x.samples y.samples table y.table in
    let outcomes : map (outcome_of_row y.target) y.samples ≡ map (outcome_of_row x.target) x.samples =
    ap (λ (q : Program). map (outcome_of_row q) y.samples) (sym targets) ∙ ap (map (outcome_of_row x.target)) (sym samples) in
    let told : AreRowsText p x.target x.samples y.rows =
    subst (λ (s : List Sample). AreRowsText p x.target s y.rows) (sym samples) (subst (λ (q : Program). AreRowsText p q y.samples y.rows) (sym targets) y.told) in
    let written : other_text ≡ y.rows ++ verdict_lines (is_met (map (outcome_of_row x.target) x.samples)) es =
    y.written ∙ ap (λ (os : List EndAndOutputs). y.rows ++ verdict_lines (is_met os) es) outcomes in
    let all : other_met ≡ met = y.all ∙ ap (λ (os : List EndAndOutputs). are_met (is_met os) es) outcomes ∙ sym x.all in
    same_table p x.target x.samples x.rows y.rows (verdict_lines (is_met (map (outcome_of_row x.target) x.samples)) es) met x.told told
    (is ∙ ap (λ (t : Text). Judged t met) x.written) (other_is ∙ ap₂ (λ (t : Text) (b : Bool). Judged t b) written all)

pub verdicts_fixed : VerdictsAreFixed
verdicts_fixed input seed seeds steps answer other (unread r first is) (unread q other_first other_is) =
    same (is ∙ ap (λ (s : Refusal LitmusRule). Refused s.rule s.line s.column) (one_refusal false input r q first other_first) ∙ sym other_is)
verdicts_fixed input seed seeds steps answer other (unread r first is) (judged p es text met reads j other_is) = absurd (input_unrefused false input p es r reads first)
verdicts_fixed input seed seeds steps answer other (judged p es text met reads j is) (unread r first other_is) = absurd (input_unrefused false input p es r reads first)
verdicts_fixed input seed seeds steps answer other (judged p es text met reads j is) (judged q fs other_text other_met other_reads k other_is) =
    let one = one_input false input q p fs es other_reads reads in
    let moved : IsJudgedTable p es seed seeds steps other_text other_met =
    subst (λ (xs : List Expected). IsJudgedTable p xs seed seeds steps other_text other_met) one.1 (subst (λ (r : Program). IsJudgedTable r fs seed seeds steps other_text other_met) one.0 k) in
    judged_alike p es seed seeds steps text other_text met other_met answer other j moved is other_is
