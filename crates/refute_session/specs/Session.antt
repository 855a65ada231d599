-- What is answered to an input of two programs.
use Rattle.std.specs.Prelude.{◌≡◌, ◌⊎◌, ℕ, true, false, List, Some, None, ◌++◌, codes, slice_get}
use Rattle.std.specs.List.{position}
use Rattle.il_syntax.specs.declared.program.Program.{Program}
use Rattle.il_reader.specs.Refusal.{Refusal}
use Rattle.text_parts.specs.Lines.{Text, whole_line}
use Rattle.pair_text.specs.Reading.{ReadsPair, IsFirstPairRefusal}
use Rattle.pair_text.specs.declared.fault.PairRule.{PairRule}
use Rattle.validator.specs.Shape.{SameShape}
use Rattle.outcome_search.specs.Runs.{HasMoreNodes}
use Rattle.outcome_list.specs.List.{some_is_spent, is_missed}
use Rattle.outcome_list.specs.declared.found.Found.{Found}
use Rattle.outcomes_session.specs.Output.{found_text}
use Rattle.outcomes_session.specs.Session.{AreAllOutcomes}
use Rattle.refute_session.specs.declared.answer.RefuteAnswer.{RefuteAnswer}
use Rattle.refute_session.specs.declared.answer.RefuteAnswer.TheVariants.{Refused, OtherShape, TooMany, Refines, Missed, Unknown}

-- f is the first outcome of the target's list that the source's list misses
pub record IsFirstMissed (source_list target_list : List Found) (f : Found) : Type 0 where
  pub at : ℕ
  pub first : position (is_missed source_list) target_list ≡ Some at
  pub there : slice_get target_list at ≡ Some f

-- a word, and behind it the outcome as `outcomes` writes it

abbrev pub missed_text : Program → Found → Text
missed_text p f = whole_line (codes "missed") ++ found_text p f

abbrev pub unknown_text : Program → Found → Text
unknown_text p f = whole_line (codes "unknown") ++ found_text p f

-- What is answered of the outcomes of both: none of the target's is missed; or the first that is, where no run of the source is spent;
-- or else that first one, which a longer run of the source may have.
pub data IsRefuteVerdict (target : Program) (source_list target_list : List Found) (answer : RefuteAnswer) : Type 0 where
  none : position (is_missed source_list) target_list ≡ None → answer ≡ Refines → IsRefuteVerdict target source_list target_list answer
  missed : (f : Found) → IsFirstMissed source_list target_list f → some_is_spent source_list ≡ false → answer ≡ Missed (missed_text target f)
      → IsRefuteVerdict target source_list target_list answer
  unknown : (f : Found) → IsFirstMissed source_list target_list f → some_is_spent source_list ≡ true → answer ≡ Unknown (unknown_text target f)
      → IsRefuteVerdict target source_list target_list answer

-- What is answered of a target, where these are the outcomes of its source: it has more nodes than the search may come to; or it is
-- what is answered of all its outcomes.
pub data IsAgainst (source_list : List Found) (target : Program) (steps states : ℕ) (answer : RefuteAnswer) : Type 0 where
  target_too_many : HasMoreNodes target steps states → answer ≡ TooMany → IsAgainst source_list target steps states answer
  target_listed : (target_list : List Found) → (HasMoreNodes target steps states → ⊥) → AreAllOutcomes target steps target_list
      → IsRefuteVerdict target source_list target_list answer → IsAgainst source_list target steps states answer

-- What is answered of two programs: they are of other shapes; or one of them has more nodes than the search may come to; or it is
-- what is answered of all their outcomes.
pub data IsRefuteAnswer (source target : Program) (steps states : ℕ) (answer : RefuteAnswer) : Type 0 where
  other_shape : (SameShape source target → ⊥) → answer ≡ OtherShape → IsRefuteAnswer source target steps states answer
  too_many : SameShape source target → HasMoreNodes source steps states ⊎ HasMoreNodes target steps states → answer ≡ TooMany
      → IsRefuteAnswer source target steps states answer
  compared : (source_list target_list : List Found) → SameShape source target → (HasMoreNodes source steps states → ⊥)
      → (HasMoreNodes target steps states → ⊥) → AreAllOutcomes source steps source_list → AreAllOutcomes target steps target_list
      → IsRefuteVerdict target source_list target_list answer → IsRefuteAnswer source target steps states answer

-- The answer: the first refusal of the input, or what is answered of its two programs.
pub data IsRefuteSession (input : Text) (steps states : ℕ) (answer : RefuteAnswer) : Type 0 where
  unread : (r : Refusal PairRule) → IsFirstPairRefusal input r → answer ≡ Refused r.rule r.line r.column → IsRefuteSession input steps states answer
  read : (source target : Program) → ReadsPair input source target → IsRefuteAnswer source target steps states answer → IsRefuteSession input steps states answer
