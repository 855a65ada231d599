-- What the answers say of runs.
use Rattle.std.specs.Prelude.{◌≡◌, ◌⊎◌, ℕ, List}
use Rattle.std.specs.List.{AllZip}
use Rattle.values_undef.specs.declared.journal.Ending.TheVariants.{Failed, Spent}
use Rattle.values_undef.specs.declared.journal.Entry.{Entry}
use Rattle.il_syntax.specs.declared.program.Program.{Program}
use Rattle.view_machine.specs.Runs.{IsJournalRun}
use Rattle.run_choices.specs.Complete.{IsComplete}
use Rattle.text_parts.specs.Lines.{Text}
use Rattle.pair_text.specs.Reading.{ReadsPair}
use Rattle.outcome_nodes.specs.Outcome.{FinalOutcome, final_outcome_of}
use Rattle.outcome_list.specs.Laws.{IsBeginning}
use Rattle.outcome_list.specs.List.{IsFound}
use Rattle.outcome_list.specs.declared.found.Found.{Found}
use Rattle.refute_session.specs.Session.{IsRefuteSession, missed_text, unknown_text}
use Rattle.refute_session.specs.declared.answer.RefuteAnswer.TheVariants.{Refines, Missed, Unknown}

-- a run of the program, complete for the budget, has this outcome, or has failed when each thread had printed a beginning of what it
-- prints in it
pub record SomeRunCovers (p : Program) (steps : ℕ) (o : FinalOutcome) : Type 0 where
  pub entries : List Entry
  pub run : IsJournalRun p entries
  pub complete : IsComplete p entries steps
  pub covers : (final_outcome_of p entries ≡ o) ⊎ (((final_outcome_of p entries).ending ≡ Failed) × AllZip IsBeginning (final_outcome_of p entries).printed o.printed)

-- a run of the program that is complete for the budget has used it up
pub record SomeRunIsSpent (p : Program) (steps : ℕ) : Type 0 where
  pub entries : List Entry
  pub run : IsJournalRun p entries
  pub complete : IsComplete p entries steps
  pub spent : (final_outcome_of p entries).ending ≡ Spent

-- Each run of the target that is complete for the budget, and done or failed, is covered by one of the source.
abbrev pub IsRefined : Program → Program → ℕ → Type 0
IsRefined source target steps = (entries : List Entry) → IsJournalRun target entries → IsComplete target entries steps
    → ((final_outcome_of target entries).ending ≡ Spent → ⊥) → SomeRunCovers source steps (final_outcome_of target entries)

-- A run of the target, complete for the budget, with its outcome; it is not spent, and no run of the source covers it.
pub record IsMissedRun (source target : Program) (steps : ℕ) (f : Found) : Type 0 where
  pub found : IsFound target steps f
  pub ended : f.outcome.ending ≡ Spent → ⊥
  pub uncovered : SomeRunCovers source steps f.outcome → ⊥

abbrev pub RefinedRunsAreTheSources : Type 0
RefinedRunsAreTheSources = (input : Text) (steps states : ℕ) (source target : Program) → ReadsPair input source target
    → IsRefuteSession input steps states Refines → IsRefined source target steps

-- no run of the source is spent
abbrev pub MissedRunsAreNotTheSources : Type 0
MissedRunsAreNotTheSources = (input text : Text) (steps states : ℕ) (source target : Program) → ReadsPair input source target
    → IsRefuteSession input steps states (Missed text)
    → (f : Found) × IsMissedRun source target steps f × (SomeRunIsSpent source steps → ⊥) × (text ≡ missed_text target f)

-- some run of the source is spent
abbrev pub UnknownRunsAreNotYetTheSources : Type 0
UnknownRunsAreNotYetTheSources = (input text : Text) (steps states : ℕ) (source target : Program) → ReadsPair input source target
    → IsRefuteSession input steps states (Unknown text)
    → (f : Found) × IsMissedRun source target steps f × SomeRunIsSpent source steps × (text ≡ unknown_text target f)
