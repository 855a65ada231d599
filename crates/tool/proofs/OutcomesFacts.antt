-- What is known of `outcomes`.
use Rattle.std.proofs.Common.{◌≡◌, ◌⊎◌, ℕ, Bool, true, false, List, inl, inr, refl, sym, subst}
use Rattle.il_syntax.specs.declared.program.Program.{Program}
use Rattle.il_reader.specs.Refusal.{Refusal}
use Rattle.litmus_text.specs.Expectation.{Expected}
use Rattle.litmus_text.specs.Reading.{ReadsLitmus, IsFirstLitmusRefusal}
use Rattle.litmus_text.specs.declared.fault.LitmusRule.{LitmusRule}
use Rattle.litmus_text.proofs.Callers.{input_unrefused}
use Rattle.outcomes_session.specs.Session.{IsOutcomesSession, unread, too_many, told}
use Rattle.outcomes_session.specs.declared.answer.OutcomesAnswer.{OutcomesAnswer}
use Rattle.outcomes_session.specs.declared.answer.OutcomesAnswer.TheVariants.{Refused, TooMany, Told}
use Rattle.tool.specs.declared.status.Status.{Status}
use Rattle.tool.specs.declared.status.Status.TheVariants as status
use Rattle.tool.specs.Litmus.{verdict_status}
use Rattle.tool.specs.Outcomes.{IsWrittenOutcomes, IsOutcomesOutput, outcomes_meaning}
use Rattle.tool.specs.Outputs.{IsRefusalStatus}
use Rattle.tool.proofs.CommandFacts.{IsOutputStatus, CommandFacts}

abbrev IsOutcomesStatus : Status → Type 0
IsOutcomesStatus s = (s ≡ status.Done) ⊎ ((s ≡ status.No) ⊎ ((s ≡ status.Input) ⊎ (s ≡ status.NoMemory)))

verdict_output : (met : Bool) → IsOutputStatus (verdict_status met)
verdict_output true = tt
verdict_output false = tt

verdict_works : (met : Bool) → IsOutcomesStatus (verdict_status met)
verdict_works true = inl refl
verdict_works false = inr (inl refl)

outputs_by : (a : OutcomesAnswer) (out : List ℕ) (s : Status) → IsWrittenOutcomes a out s → IsOutputStatus s
outputs_by (Refused rule line column) out s h = subst IsOutputStatus (sym h.1) tt
outputs_by TooMany out s h = subst IsOutputStatus (sym h.1) tt
outputs_by (Told text met) out s h = subst IsOutputStatus (sym h.1) (verdict_output met)

module _ (steps states : ℕ) (bytes : List ℕ) where
  outputs : (out : List ℕ) (s : Status) → IsOutcomesOutput steps states bytes out s → IsOutputStatus s
  outputs out s x = outputs_by x.answer out s x.written

  works_by : (a : OutcomesAnswer) (out : List ℕ) (s : Status) → IsOutcomesSession bytes steps states a → IsWrittenOutcomes a out s
      → (p : Program) × (expectations : List Expected) × ReadsLitmus true bytes p expectations → IsOutcomesStatus s
  works_by a out s (unread r first is) written input = absurd (input_unrefused true bytes input.0 input.1 r input.2 first)
  works_by a out s (too_many p es reads more is) written input = inr (inr (inl (subst (λ (b : OutcomesAnswer). IsWrittenOutcomes b out s) is written).1))
  works_by a out s (told p es text met reads few h is) written input =
      let k = subst (λ (b : OutcomesAnswer). IsWrittenOutcomes b out s) is written in
      subst IsOutcomesStatus (sym k.1) (verdict_works met)

  works : (out : List ℕ) (s : Status) → IsOutcomesOutput steps states bytes out s → (p : Program) × (expectations : List Expected) × ReadsLitmus true bytes p expectations → IsOutcomesStatus s
  works out s x input = works_by x.answer out s x.answers x.written input

  refuses_by : (a : OutcomesAnswer) (out : List ℕ) (s : Status) → IsOutcomesSession bytes steps states a → IsWrittenOutcomes a out s → (r : Refusal LitmusRule) × IsFirstLitmusRefusal true bytes r → IsRefusalStatus s
  refuses_by a out s (unread r first is) written input =
      let h = subst (λ (b : OutcomesAnswer). IsWrittenOutcomes b out s) is written in
      inl h.1
  refuses_by a out s (too_many p es reads more is) written input = absurd (input_unrefused true bytes p es input.0 reads input.1)
  refuses_by a out s (told p es text met reads few h is) written input = absurd (input_unrefused true bytes p es input.0 reads input.1)

  refuses : (out : List ℕ) (s : Status) → IsOutcomesOutput steps states bytes out s → (r : Refusal LitmusRule) × IsFirstLitmusRefusal true bytes r → IsRefusalStatus s
  refuses out s x input = refuses_by x.answer out s x.answers x.written input

pub outcomes_facts : (steps states : ℕ) → CommandFacts (outcomes_meaning steps states)
outcomes_facts steps states = record {
  outputs = outputs steps states;
  works = works steps states;
  refuses = refuses steps states;
  no_memory = inr (inr (inr refl));
  tells = λ bytes out s is. absurd cc;
}

pub outcomes_written : (steps states : ℕ) (bytes out : List ℕ) (s : Status) (a : OutcomesAnswer) → IsOutcomesSession bytes steps states a → IsWrittenOutcomes a out s → IsOutcomesOutput steps states bytes out s
outcomes_written steps states bytes out s a answers written = record { answer = a; answers = answers; written = written }
