-- What is known of `refute`.
use Rattle.std.proofs.Common.{◌≡◌, ◌⊎◌, ℕ, List, inl, inr, refl, sym, subst}
use Rattle.il_syntax.specs.declared.program.Program.{Program}
use Rattle.il_reader.specs.Refusal.{Refusal}
use Rattle.pair_text.specs.Reading.{ReadsPair, IsFirstPairRefusal}
use Rattle.pair_text.specs.declared.fault.PairRule.{PairRule}
use Rattle.pair_text.proofs.Callers.{pair_unrefused}
use Rattle.refute_session.specs.Session.{IsRefuteSession, unread, read}
use Rattle.refute_session.specs.declared.answer.RefuteAnswer.{RefuteAnswer}
use Rattle.refute_session.specs.declared.answer.RefuteAnswer.TheVariants.{Refused, OtherShape, TooMany, Refines, Missed, Unknown}
use Rattle.tool.specs.declared.status.Status.{Status}
use Rattle.tool.specs.declared.status.Status.TheVariants as status
use Rattle.tool.specs.Refute.{IsWrittenRefute, IsRefuteOutput, refute_meaning}
use Rattle.tool.specs.Outputs.{IsRefusalStatus}
use Rattle.tool.proofs.CommandFacts.{IsOutputStatus, CommandFacts}

abbrev IsRefuteStatus : Status → Type 0
IsRefuteStatus s = (s ≡ status.Done) ⊎ ((s ≡ status.No) ⊎ ((s ≡ status.Input) ⊎ (s ≡ status.NoMemory)))

outputs_by : (a : RefuteAnswer) (out : List ℕ) (s : Status) → IsWrittenRefute a out s → IsOutputStatus s
outputs_by (Refused rule line column) out s h = subst IsOutputStatus (sym h.1) tt
outputs_by OtherShape out s h = subst IsOutputStatus (sym h.1) tt
outputs_by TooMany out s h = subst IsOutputStatus (sym h.1) tt
outputs_by Refines out s h = subst IsOutputStatus (sym h.1) tt
outputs_by (Missed text) out s h = subst IsOutputStatus (sym h.1) tt
outputs_by (Unknown text) out s h = subst IsOutputStatus (sym h.1) tt

works_by : (a : RefuteAnswer) (out : List ℕ) (s : Status) → IsWrittenRefute a out s → IsRefuteStatus s
works_by (Refused rule line column) out s h = inr (inr (inl h.1))
works_by OtherShape out s h = inr (inl h.1)
works_by TooMany out s h = inr (inr (inl h.1))
works_by Refines out s h = inl h.1
works_by (Missed text) out s h = inr (inl h.1)
works_by (Unknown text) out s h = inl h.1

module _ (steps states : ℕ) (bytes : List ℕ) where
  outputs : (out : List ℕ) (s : Status) → IsRefuteOutput steps states bytes out s → IsOutputStatus s
  outputs out s x = outputs_by x.answer out s x.written

  works : (out : List ℕ) (s : Status) → IsRefuteOutput steps states bytes out s → (p : Program) × (q : Program) × ReadsPair bytes p q → IsRefuteStatus s
  works out s x input = works_by x.answer out s x.written

  refuses_by : (a : RefuteAnswer) (out : List ℕ) (s : Status) → IsRefuteSession bytes steps states a → IsWrittenRefute a out s → (r : Refusal PairRule) × IsFirstPairRefusal bytes r → IsRefusalStatus s
  refuses_by a out s (unread r first is) written input =
      let h = subst (λ (b : RefuteAnswer). IsWrittenRefute b out s) is written in
      inl h.1
  refuses_by a out s (read p q reads answers) written input = absurd (pair_unrefused bytes p q input.0 reads input.1)

  refuses : (out : List ℕ) (s : Status) → IsRefuteOutput steps states bytes out s → (r : Refusal PairRule) × IsFirstPairRefusal bytes r → IsRefusalStatus s
  refuses out s x input = refuses_by x.answer out s x.answers x.written input

pub refute_facts : (steps states : ℕ) → CommandFacts (refute_meaning steps states)
refute_facts steps states = record {
  outputs = outputs steps states;
  works = works steps states;
  refuses = refuses steps states;
  no_memory = inr (inr (inr refl));
  tells = λ bytes out s is. absurd cc;
}

pub refute_written : (steps states : ℕ) (bytes out : List ℕ) (s : Status) (a : RefuteAnswer) → IsRefuteSession bytes steps states a → IsWrittenRefute a out s → IsRefuteOutput steps states bytes out s
refute_written steps states bytes out s a answers written = record { answer = a; answers = answers; written = written }
