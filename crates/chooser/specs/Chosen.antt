-- What a chooser is asked, and what is taken. A chooser means an answer and a next state, of its state,
-- a thread and the number of choices.
use Rattle.std.specs.Prelude.{◌≡◌, ℕ, Bool, true, false, List, length, Some, slice_get, if◌then◌else◌}
pub use Rattle.values_undef.specs.Access.{leaves_choice}
use Rattle.values_undef.specs.declared.access.Access.{Access}
use Rattle.values_undef.specs.declared.access.Choice.{Choice}
use Rattle.values_undef.specs.declared.access.Choice.TheVariants.{Plain}
use Rattle.views.specs.ThreadView.{ThreadView}
use Rattle.message_memory.specs.Memory.{Memory}
use Rattle.message_memory.specs.Candidates.{candidates}

-- the choice is the one of the number that the chooser answers for the number of choices
abbrev pub IsAnswerAmong : {C : Type 0} → (C → ℕ → ℕ → ℕ) → C → ℕ → List Choice → Choice → Type 0
IsAnswerAmong answer chooser thread choices c = slice_get choices (answer chooser thread (length choices)) ≡ Some c

-- the choice is the candidate that the chooser answers, where there is a choice, and else plain
abbrev pub IsChosenBy : {C : Type 0} → (C → ℕ → ℕ → ℕ) → Memory → ThreadView → Access → C → ℕ → Choice → Bool → Type 0
IsChosenBy answer m view a chooser thread c true = IsAnswerAmong answer chooser thread (candidates m view a) c
IsChosenBy answer m view a chooser thread c false = c ≡ Plain

abbrev pub IsChosen : {C : Type 0} → (C → ℕ → ℕ → ℕ) → Memory → ThreadView → Access → C → ℕ → Choice → Type 0
IsChosen answer m view a chooser thread c = IsChosenBy answer m view a chooser thread c (leaves_choice a)

-- the chooser after it was asked once, where there is a choice, and else not at all
abbrev pub chooser_after : {C : Type 0} → (C → ℕ → ℕ → C) → Memory → ThreadView → Access → C → ℕ → C
chooser_after next m view a chooser thread =
    if leaves_choice a then next chooser thread (length (candidates m view a)) else chooser
