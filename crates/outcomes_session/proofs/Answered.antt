-- What an answer says of the input.
use Rattle.std.proofs.Common.{◌≡◌, ℕ, Bool, true, List, refl, subst}
use Rattle.il_syntax.specs.declared.program.Program.{Program}
use Rattle.il_reader.specs.Refusal.{IfRefused}
use Rattle.il_reader.specs.declared.fault.InputFault.{InputFault}
use Rattle.il_reader.specs.declared.fault.InputFault.TheVariants as input_fault
use Rattle.text_parts.specs.Lines.{Text}
use Rattle.litmus_text.specs.Expectation.{Expected}
use Rattle.litmus_text.specs.Reading.{ReadsLitmus, IsFirstLitmusRefusal}
use Rattle.litmus_text.specs.declared.fault.LitmusRule.{LitmusRule}
use Rattle.outcome_search.specs.Runs.{HasMoreNodes}
use Rattle.outcomes_session.specs.Session.{IsOutcomesSession, IsToldOf, unread, too_many, told}
use Rattle.outcomes_session.specs.Telling.{IsTelling}
use Rattle.outcomes_session.specs.declared.telling.Telling.{Telling}
use Rattle.outcomes_session.specs.declared.telling.Telling.TheVariants as telling
use Rattle.outcomes_session.specs.declared.answer.OutcomesAnswer.TheVariants.{Refused, TooMany, Told}

pub answer_told : (input : Text) (steps states : ℕ) (p : Program) (es es' : List Expected) (text : Text) (met : Bool) → ReadsLitmus true input p es → es' ≡ es → (HasMoreNodes p steps states → ⊥) × IsToldOf p es' steps text met → IsOutcomesSession input steps states (Told text met)
answer_told input steps states p es es' text met reads same h = told p es text met reads h.0 (subst (λ (xs : List Expected). IsToldOf p xs steps text met) same h.1) refl

pub answer_many : (input : Text) (steps states : ℕ) (p : Program) (es : List Expected) → ReadsLitmus true input p es → HasMoreNodes p steps states → IsOutcomesSession input steps states TooMany
answer_many input steps states p es reads h = too_many p es reads h refl

pub answer_refused : (input : Text) (steps states : ℕ) (fault : InputFault LitmusRule) (rule : LitmusRule) (line column : ℕ) → IfRefused fault (λ r. IsFirstLitmusRefusal true input r) → fault ≡ input_fault.Refused rule line column
    → IsOutcomesSession input steps states (Refused rule line column)
answer_refused input steps states fault rule line column is refused =
    unread (record { rule = rule; line = line; column = column }) (subst (λ (e : InputFault LitmusRule). IfRefused e (λ r. IsFirstLitmusRefusal true input r)) refused is) refl

-- what comes of a search

pub is_many : (p : Program) (es : List Expected) (steps states : ℕ) (t : Telling) → IsTelling p es steps states t → t ≡ telling.TooMany → HasMoreNodes p steps states
is_many p es steps states t h is = subst (IsTelling p es steps states) is h

pub is_told_of : (p : Program) (es : List Expected) (steps states : ℕ) (t : Telling) (text : Text) (met : Bool) → IsTelling p es steps states t → t ≡ telling.Told text met → (HasMoreNodes p steps states → ⊥) × IsToldOf p es steps text met
is_told_of p es steps states t text met h is = subst (IsTelling p es steps states) is h
