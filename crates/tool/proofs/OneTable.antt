-- `litmus` tells one table of an input, and the same verdicts.
use Rattle.std.proofs.Common.{◌≡◌, ◌∙◌, ◌⊎◌, ℕ, List, inl, inr, sym, subst}
use Rattle.litmus_session.specs.Laws.{AgreesButForSources, same, same_table}
use Rattle.litmus_session.specs.declared.answer.LitmusAnswer.{LitmusAnswer}
use Rattle.litmus_session.specs.declared.answer.LitmusAnswer.TheVariants.{Refused, Judged}
use Rattle.litmus_session.proofs.Callers.{verdicts_fixed}
use Rattle.tool.specs.declared.status.Status.{Status}
use Rattle.tool.specs.Litmus.{IsWrittenLitmus, IsLitmusOutput}
use Rattle.tool.specs.Laws.{AreOfOneTable, LitmusTellsOneTable}

module _ (one other : List ℕ) (s t : Status) where
  written_once : (a : LitmusAnswer) → IsWrittenLitmus a one s → IsWrittenLitmus a other t → ((one ≡ other) ⊎ AreOfOneTable one other) × (s ≡ t)
  written_once (Refused rule line column) x y = (inl (x.0 ∙ sym y.0), x.1 ∙ sym y.1)
  written_once (Judged text met) x y = (inl (x.0 ∙ sym y.0), x.1 ∙ sym y.1)

  fixed_by : (a b : LitmusAnswer) → AgreesButForSources a b → IsWrittenLitmus a one s → IsWrittenLitmus b other t → ((one ≡ other) ⊎ AreOfOneTable one other) × (s ≡ t)
  fixed_by a b (same is) x y = written_once a x (subst (λ (c : LitmusAnswer). IsWrittenLitmus c other t) (sym is) y)
  fixed_by a b (same_table given target samples rows other_rows verdicts met told other_told is other_is) x y =
      let h = subst (λ (c : LitmusAnswer). IsWrittenLitmus c one s) is x in
      let k = subst (λ (c : LitmusAnswer). IsWrittenLitmus c other t) other_is y in (
        inr (record {
          given = given;
          target = target;
          samples = samples;
          rows = rows;
          other_rows = other_rows;
          verdicts = verdicts;
          told = told;
          other_told = other_told;
          one_is = h.0;
          other_is = k.0;
        }),
        h.1 ∙ sym k.1,
      )

pub litmus_tells_one_table : LitmusTellsOneTable
litmus_tells_one_table seed seeds steps bytes one other s t x y =
    fixed_by one other s t x.answer y.answer (verdicts_fixed bytes seed seeds steps x.answer y.answer x.answers y.answers) x.written y.written
