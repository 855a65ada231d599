-- Lists of outcomes, each with a run that has it.
use Rattle.std.specs.Prelude.{◌≡◌, ◌⊎◌, ◌&&◌, ◌||◌, not, ℕ, ◌<◌, ◌≤◌, Bool, true, false, List, [], length, map, slice_index_or}
use Rattle.std.specs.List.{AllByRecursion, Contains, list_any, starts_with}
use Rattle.std.specs.declared.cmp.Ordering.TheVariants.{Less, Greater}
use Rattle.std.specs.Ordering.{is_eq, int_eq}
use Rattle.std.specs.Cmp.Lexicographic.{pointwise}
use Rattle.values_undef.specs.declared.journal.Ending.{Ending}
use Rattle.values_undef.specs.declared.journal.Ending.TheVariants.{Done, Failed, Spent}
use Rattle.values_undef.specs.declared.journal.Entry.{Entry}
use Rattle.il_syntax.specs.declared.program.Program.{Program}
use Rattle.view_machine.specs.Runs.{IsJournalRun}
use Rattle.run_choices.specs.Complete.{IsComplete}
use Rattle.outcome_nodes.specs.Outcome.{FinalOutcome, final_outcome_of}
use Rattle.outcome_list.specs.Order.{outcome_cmp, AreOutcomesRising}
use Rattle.outcome_list.specs.declared.found.Found.{Found}

abbrev pub found_outcome : Found → FinalOutcome
found_outcome f = f.outcome

-- its journal is a run that is complete for the budget, and has the outcome
abbrev pub IsFound : Program → ℕ → Found → Type 0
IsFound p steps f = IsJournalRun p f.journal × IsComplete p f.journal steps × (final_outcome_of p f.journal ≡ found_outcome f)

-- the outcome would stand at place k: those before it there are less, the others greater
pub record IsPlaceFor (os : List FinalOutcome) (o : FinalOutcome) (k : ℕ) : Type 0 where
  pub within : k ≤ length os
  pub before : (j : ℕ) → j < k → outcome_cmp (slice_index_or os j o) o ≡ Less
  pub after : (j : ℕ) → k ≤ j → j < length os → outcome_cmp (slice_index_or os j o) o ≡ Greater

-- its journal is the first of the runs, below number k, that has the outcome
pub record IsFirstOf (p : Program) (runs : List (List Entry)) (k : ℕ) (f : Found) : Type 0 where
  pub at : ℕ
  pub there : at < k
  pub journal : f.journal ≡ slice_index_or runs at []
  pub outcome : final_outcome_of p f.journal ≡ found_outcome f
  pub first : (j : ℕ) → j < at → final_outcome_of p (slice_index_or runs j []) ≡ found_outcome f → ⊥

-- it has the journal of the run, and an outcome that the list hasn't
pub record IsNew (p : Program) (run : List Entry) (list : List Found) (f : Found) : Type 0 where
  pub journal : f.journal ≡ run
  pub outcome : found_outcome f ≡ final_outcome_of p run
  pub other : Contains (map found_outcome list) (found_outcome f) → ⊥

-- the list has got the outcome of a run, has kept what it had, and has got nothing else
pub record IsAdded (p : Program) (run : List Entry) (before after : List Found) : Type 0 where
  pub rising : AreOutcomesRising (map found_outcome after)
  pub has : Contains (map found_outcome after) (final_outcome_of p run)
  pub kept : (o : FinalOutcome) → Contains (map found_outcome before) o → Contains (map found_outcome after) o
  pub each : AllByRecursion (λ f. Contains before f ⊎ IsNew p run before f) after

-- ---- refinement

abbrev pub is_failed_ending : Ending → Bool
is_failed_ending Done = false
is_failed_ending Failed = true
is_failed_ending Spent = false

-- the run has come to the end of its budget
abbrev pub is_spent_ending : Ending → Bool
is_spent_ending Done = false
is_spent_ending Failed = false
is_spent_ending Spent = true

-- The outcome q of the source covers the outcome o of the target: it is the same, or it has failed, and what each thread
-- has printed in it is a beginning of what that thread has printed in o.
abbrev pub covers : FinalOutcome → FinalOutcome → Bool
covers q o = is_eq (outcome_cmp q o) || (is_failed_ending q.ending && pointwise (λ begun whole. starts_with int_eq whole begun) q.printed o.printed)

-- The outcome of the target is done or failed, and no outcome of the source covers it. One that is spent says nothing of what a
-- longer run comes to, so it is never missed.
abbrev pub is_missed : List Found → Found → Bool
is_missed source f = not (is_spent_ending (found_outcome f).ending) && not (list_any (λ g. covers (found_outcome g) (found_outcome f)) source)

-- some outcome of the list is spent
abbrev pub some_is_spent : List Found → Bool
some_is_spent list = list_any (λ f. is_spent_ending (found_outcome f).ending) list
