-- What an answer says of the input.
use Rattle.std.proofs.Common.{◌≡◌, ◌∙◌, inr, ℕ, true, false, Option, Some, List, get_or, ap, refl, sym, subst}
use Rattle.std.specs.List.{position}
use Rattle.std.proofs.lemmas.List.Quantifiers.{position-Some}
use Rattle.std.proofs.lemmas.Option.{slice_get-get_or}
use Rattle.il_syntax.specs.declared.program.Program.{Program}
use Rattle.il_reader.specs.Refusal.{IfRefused}
use Rattle.il_reader.specs.declared.fault.InputFault.{InputFault}
use Rattle.il_reader.specs.declared.fault.InputFault.TheVariants as input_fault
use Rattle.text_parts.specs.Lines.{Text}
use Rattle.pair_text.specs.Reading.{ReadsPair, IsFirstPairRefusal}
use Rattle.pair_text.specs.declared.fault.PairRule.{PairRule}
use Rattle.validator.specs.Shape.{SameShape}
use Rattle.outcome_search.specs.Runs.{HasMoreNodes}
use Rattle.outcome_list.specs.List.{some_is_spent, is_missed}
use Rattle.outcome_list.specs.declared.found.Found.{Found}
use Rattle.outcomes_session.specs.Session.{AreAllOutcomes}
use Rattle.refute_session.specs.Session.{IsAgainst, IsFirstMissed, IsRefuteAnswer, IsRefuteSession, IsRefuteVerdict, missed_text, unknown_text, missed, unknown, target_too_many, target_listed, too_many, compared, unread, read}
use Rattle.refute_session.specs.declared.answer.RefuteAnswer.{RefuteAnswer}
use Rattle.refute_session.specs.declared.answer.RefuteAnswer.TheVariants.{Refused, Missed, Unknown}

pub answer_refused : (input : Text) (steps states : ℕ) (fault : InputFault PairRule) (rule : PairRule) (line column : ℕ) → IfRefused fault (λ r. IsFirstPairRefusal input r) → fault ≡ input_fault.Refused rule line column
    → IsRefuteSession input steps states (Refused rule line column)
answer_refused input steps states fault rule line column is refused =
    unread (record { rule = rule; line = line; column = column }) (subst (λ (e : InputFault PairRule). IfRefused e (λ r. IsFirstPairRefusal input r)) refused is) refl

-- what is answered of the target's outcomes is answered of both programs
pub against_both : (source target : Program) (steps states : ℕ) (source_list : List Found) (a : RefuteAnswer) → SameShape source target → (HasMoreNodes source steps states → ⊥) → AreAllOutcomes source steps source_list
    → IsAgainst source_list target steps states a → IsRefuteAnswer source target steps states a
against_both source target steps states source_list a shape few all (target_too_many more is) = too_many shape (inr more) is
against_both source target steps states source_list a shape few all (target_listed target_list few' all' h) = compared source_list target_list shape few few' all all' h

pub verdict_against : (source_list : List Found) (target : Program) (steps states : ℕ) (target_list : List Found) (a : RefuteAnswer) → (HasMoreNodes target steps states → ⊥) → AreAllOutcomes target steps target_list
    → IsRefuteVerdict target source_list target_list a → IsAgainst source_list target steps states a
verdict_against source_list target steps states target_list a few all h = target_listed target_list few all h

pub answer_read : (input : Text) (steps states : ℕ) (source target : Program) (a : RefuteAnswer) → ReadsPair input source target → IsRefuteAnswer source target steps states a → IsRefuteSession input steps states a
answer_read input steps states source target a reads h = read source target reads h

pub first_missed : (source_list target_list : List Found) (k : ℕ) (f : Found) (r : Option ℕ) → r ≡ position (is_missed source_list) target_list → r ≡ Some k → f ≡ get_or target_list k f → IsFirstMissed source_list target_list f
first_missed source_list target_list k f r told is there =
    let first = sym told ∙ is in
    let inside = (position-Some (is_missed source_list) target_list k f first).0 in
    record { at = k; first = first; there = slice_get-get_or target_list k f inside ∙ sym (ap (λ (g : Found). Some g) there) }

pub missed_verdict : (target : Program) (source_list target_list : List Found) (f : Found) (text : Text) → IsFirstMissed source_list target_list f → some_is_spent source_list ≡ false → text ≡ missed_text target f
    → IsRefuteVerdict target source_list target_list (Missed text)
missed_verdict target source_list target_list f text first h is = missed f first h (ap (λ (t : Text). Missed t) is)

pub unknown_verdict : (target : Program) (source_list target_list : List Found) (f : Found) (text : Text) → IsFirstMissed source_list target_list f → some_is_spent source_list ≡ true → text ≡ unknown_text target f
    → IsRefuteVerdict target source_list target_list (Unknown text)
unknown_verdict target source_list target_list f text first h is = unknown f first h (ap (λ (t : Text). Unknown t) is)
