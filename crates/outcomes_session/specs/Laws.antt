-- What the verdicts say of runs.
use Rattle.std.specs.Prelude.{◌≡◌, ◌↔◌, ℕ, ◌≤◌, true, List, length, slice_index_or}
use Rattle.std.specs.List.{AllByRecursion}
use Rattle.values_undef.specs.declared.value.Val.{Val}
use Rattle.values_undef.specs.declared.value.Val.TheVariants.{Undef}
use Rattle.values_undef.specs.declared.journal.Entry.{Entry}
use Rattle.il_syntax.specs.declared.program.Program.{Program}
use Rattle.thread_core.specs.Programs.{IsProperProgram}
use Rattle.view_machine.specs.Runs.{IsJournalRun}
use Rattle.run_choices.specs.Complete.{IsComplete}
use Rattle.litmus.specs.Outcome.{outcome_in}
use Rattle.litmus_text.specs.Expectation.{Expected}
use Rattle.litmus_text.specs.Output.{wanted}
use Rattle.litmus_text.specs.declared.expectation.ExpectedWord.{ExpectedWord}
use Rattle.litmus_text.specs.declared.expectation.ExpectedWord.TheVariants.{Output, Last}
use Rattle.outcome_nodes.specs.Outcome.{final_outcome_of}
use Rattle.outcome_list.specs.declared.found.Found.{Found}
use Rattle.outcomes_session.specs.Judging.{is_met_by}
use Rattle.outcomes_session.specs.Output.{are_all_done}
use Rattle.outcomes_session.specs.Session.{AreAllOutcomes}

-- of these last values, that of the location that the word names is the one that it names
abbrev pub HasNamed : List Val → ExpectedWord → Type 0
HasNamed values (Output o) = Unit {0}
HasNamed values (Last l) = slice_index_or values l.place Undef ≡ l.value

-- some run that is complete for the budget is done with just the outputs that the expectation names, and has in each location that
-- it names the last value that it names
pub record SomeRunMeets (p : Program) (steps : ℕ) (e : Expected) : Type 0 where
  pub entries : List Entry
  pub run : IsJournalRun p entries
  pub complete : IsComplete p entries steps
  pub comes_to : outcome_in entries (length p.threads) ≡ wanted e
  pub values : AllByRecursion (HasNamed (final_outcome_of p entries).values) e.words

-- `some` is met exactly where there is such a run, and `none` where there is none
abbrev pub VerdictsAreOfRuns : Type 0
VerdictsAreOfRuns = (p : Program) (steps : ℕ) (list : List Found) (e : Expected) → AreAllOutcomes p steps list
    → (e.some ≡ true → (is_met_by p list e ≡ true) ↔ SomeRunMeets p steps e)
    × ((e.some ≡ true → ⊥) → (is_met_by p list e ≡ true) ↔ (SomeRunMeets p steps e → ⊥))

-- A list of all outcomes within a budget, in which each is done, is the list within each greater budget.
abbrev pub DoneListsStay : Type 0
DoneListsStay = (p : Program) (few many : ℕ) (list : List Found) → IsProperProgram p → few ≤ many → AreAllOutcomes p few list → are_all_done list ≡ true → AreAllOutcomes p many list
