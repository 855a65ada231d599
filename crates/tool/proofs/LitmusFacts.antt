-- What is known of `litmus`.
use Rattle.std.proofs.Common.{◌≡◌, ◌∙◌, ◌⊎◌, ℕ, Bool, true, false, List, inl, inr, refl, sym, subst}
use Rattle.il_syntax.specs.declared.program.Program.{Program}
use Rattle.il_reader.specs.Refusal.{Refusal}
use Rattle.litmus_text.specs.Expectation.{Expected}
use Rattle.litmus_text.specs.Reading.{ReadsLitmus, IsFirstLitmusRefusal}
use Rattle.litmus_text.specs.declared.fault.LitmusRule.{LitmusRule}
use Rattle.litmus_text.proofs.Callers.{input_unrefused, one_input}
use Rattle.litmus_session.specs.Session.{IsLitmusSession, unread, judged}
use Rattle.litmus_session.specs.declared.answer.LitmusAnswer.{LitmusAnswer}
use Rattle.litmus_session.specs.declared.answer.LitmusAnswer.TheVariants.{Refused, Judged}
use Rattle.tool.specs.declared.status.Status.{Status}
use Rattle.tool.specs.declared.status.Status.TheVariants as status
use Rattle.tool.specs.Litmus.{IsWrittenLitmus, IsLitmusOutput, litmus_meaning, verdict_status}
use Rattle.tool.specs.Outputs.{IsRefusalStatus}
use Rattle.tool.proofs.CommandFacts.{IsOutputStatus, CommandFacts}

abbrev IsLitmusStatus : Status → Type 0
IsLitmusStatus s = (s ≡ status.Done) ⊎ ((s ≡ status.No) ⊎ (s ≡ status.NoMemory))

verdict_output : (met : Bool) → IsOutputStatus (verdict_status met)
verdict_output true = tt
verdict_output false = tt

verdict_works : (met : Bool) → IsLitmusStatus (verdict_status met)
verdict_works true = inl refl
verdict_works false = inr (inl refl)

outputs_by : (a : LitmusAnswer) (out : List ℕ) (s : Status) → IsWrittenLitmus a out s → IsOutputStatus s
outputs_by (Refused rule line column) out s h = subst IsOutputStatus (sym h.1) tt
outputs_by (Judged text met) out s h = subst IsOutputStatus (sym h.1) (verdict_output met)

module _ (seed seeds steps : ℕ) (bytes : List ℕ) where
  outputs : (out : List ℕ) (s : Status) → IsLitmusOutput seed seeds steps bytes out s → IsOutputStatus s
  outputs out s x = outputs_by x.answer out s x.written

  works_by : (a : LitmusAnswer) (out : List ℕ) (s : Status) → IsLitmusSession bytes seed seeds steps a → IsWrittenLitmus a out s
      → (p : Program) × (expectations : List Expected) × ReadsLitmus false bytes p expectations → IsLitmusStatus s
  works_by a out s (unread r first is) written input = absurd (input_unrefused false bytes input.0 input.1 r input.2 first)
  works_by a out s (judged p es text met reads j is) written input =
      let h = subst (λ (b : LitmusAnswer). IsWrittenLitmus b out s) is written in
      subst IsLitmusStatus (sym h.1) (verdict_works met)

  works : (out : List ℕ) (s : Status) → IsLitmusOutput seed seeds steps bytes out s → (p : Program) × (expectations : List Expected) × ReadsLitmus false bytes p expectations → IsLitmusStatus s
  works out s x input = works_by x.answer out s x.answers x.written input

  refuses_by : (a : LitmusAnswer) (out : List ℕ) (s : Status) → IsLitmusSession bytes seed seeds steps a → IsWrittenLitmus a out s → (r : Refusal LitmusRule) × IsFirstLitmusRefusal false bytes r → IsRefusalStatus s
  refuses_by a out s (unread r first is) written input =
      let h = subst (λ (b : LitmusAnswer). IsWrittenLitmus b out s) is written in
      inl h.1
  refuses_by a out s (judged p es text met reads j is) written input = absurd (input_unrefused false bytes p es input.0 reads input.1)

  refuses : (out : List ℕ) (s : Status) → IsLitmusOutput seed seeds steps bytes out s → (r : Refusal LitmusRule) × IsFirstLitmusRefusal false bytes r → IsRefusalStatus s
  refuses out s x input = refuses_by x.answer out s x.answers x.written input

pub litmus_facts : (seed seeds steps : ℕ) → CommandFacts (litmus_meaning seed seeds steps)
litmus_facts seed seeds steps = record {
  outputs = outputs seed seeds steps;
  works = works seed seeds steps;
  refuses = refuses seed seeds steps;
  no_memory = inr (inr refl);
  tells = λ bytes out s is. absurd cc;
}

pub answer_written : (seed seeds steps : ℕ) (bytes out : List ℕ) (s : Status) (a : LitmusAnswer) → IsLitmusSession bytes seed seeds steps a → IsWrittenLitmus a out s → IsLitmusOutput seed seeds steps bytes out s
answer_written seed seeds steps bytes out s a answers written = record { answer = a; answers = answers; written = written }
