-- What is judged of a program, and answered to an input.
use Rattle.std.proofs.Common.{◌≡◌, ◌≤◌, ℕ, Bool, false, List, refl, subst, arith}
use Rattle.std.specs.List.{All}
use Rattle.std.proofs.lemmas.List.Elements.{All-weaker}
use Rattle.il_syntax.specs.declared.program.Program.{Program}
use Rattle.il_reader.specs.Refusal.{IfRefused}
use Rattle.il_reader.specs.declared.fault.InputFault.{InputFault}
use Rattle.il_reader.specs.declared.fault.InputFault.TheVariants as input_fault
use Rattle.text_parts.specs.Lines.{Text}
use Rattle.view_machine.specs.Runs.{IsJournalRun}
use Rattle.refinement.specs.Playings.{AreFew}
use Rattle.reports.proofs.Callers.{complete_runs_are_few}
use Rattle.litmus.specs.Laws.{IsRunOfSeeds}
use Rattle.litmus.specs.declared.table.Sample.{Sample}
use Rattle.litmus_text.specs.Expectation.{Expected}
use Rattle.litmus_text.specs.Reading.{ReadsLitmus, IsFirstLitmusRefusal}
use Rattle.litmus_text.specs.declared.fault.LitmusRule.{LitmusRule}
use Rattle.litmus_session.specs.Session.{IsJudgedTable, IsLitmusSession, judged, unread}
use Rattle.litmus_session.specs.declared.answer.LitmusAnswer.TheVariants.{Judged, Refused}

pub rows_runs : (target p : Program) (seed seeds steps : ℕ) (samples : List Sample) → target ≡ p → All (IsRunOfSeeds target seed seeds steps) samples → All (λ (s : Sample). IsJournalRun p s.journal) samples
rows_runs target p seed seeds steps samples is all =
    All-weaker (IsRunOfSeeds target seed seeds steps) (λ (s : Sample). IsJournalRun p s.journal) (λ s x. subst (λ (q : Program). IsJournalRun q s.journal) is x.sampled.run) samples all

pub rows_few : (target : Program) (seed seeds steps : ℕ) (samples : List Sample) → steps ≤ 100 → All (IsRunOfSeeds target seed seeds steps) samples → All (λ (s : Sample). AreFew s.journal) samples
rows_few target seed seeds steps samples few all =
    All-weaker (IsRunOfSeeds target seed seeds steps) (λ (s : Sample). AreFew s.journal)
    (λ s x. complete_runs_are_few target s.journal steps (omega (arith, few)) x.sampled.run x.sampled.complete) samples all

pub answer_judged : (input : Text) (seed seeds steps : ℕ) (p : Program) (es judged_es : List Expected) (text : Text) (met : Bool) → ReadsLitmus false input p es → judged_es ≡ es → IsJudgedTable p judged_es seed seeds steps text met
    → IsLitmusSession input seed seeds steps (Judged text met)
answer_judged input seed seeds steps p es judged_es text met reads is j = judged p es text met reads (subst (λ (xs : List Expected). IsJudgedTable p xs seed seeds steps text met) is j) refl

pub answer_refused : (input : Text) (seed seeds steps : ℕ) (fault : InputFault LitmusRule) (rule : LitmusRule) (line column : ℕ) → IfRefused fault (λ r. IsFirstLitmusRefusal false input r) → fault ≡ input_fault.Refused rule line column
    → IsLitmusSession input seed seeds steps (Refused rule line column)
answer_refused input seed seeds steps fault rule line column is refused =
    unread (record { rule = rule; line = line; column = column }) (subst (λ (e : InputFault LitmusRule). IfRefused e (λ r. IsFirstLitmusRefusal false input r)) refused is) refl
