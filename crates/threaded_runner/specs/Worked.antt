-- What a thread that runs apart has done, and seen of the others.
use Rattle.std.specs.Prelude.{◌≡◌, ◌⊎◌, ℕ, ◌%◌, ◌≤◌, true, List, ◌∷◌, ◌++◌, length, Some, slice_get}
use Rattle.values_undef.specs.Access.{choice_of_event, is_atomic_event}
use Rattle.values_undef.specs.Journal.{used_steps, last_fails}
use Rattle.values_undef.specs.declared.access.Choice.{Choice}
use Rattle.il_syntax.specs.declared.program.Program.{Program}
use Rattle.message_memory.specs.declared.history.Call.{Call}
use Rattle.message_memory.specs.Candidates.{candidates}
use Rattle.message_memory.specs.History.{MemoryState, memory_state_after, view_of, calls_by, entries_of}
use Rattle.chooser.specs.Draws.{generator, word}
use Rattle.view_machine.specs.Laws.{FollowsThread, IsHistoryOf}
use Rattle.view_machine.specs.Merged.{opening_of}
use Rattle.run_choices.specs.Drawn.{atomic_entries_of}
use Rattle.run_choices.specs.Complete.{has_spent}
use Rattle.run_choices.specs.Complete.{has_ended}

-- the choices that a call had, in the state before it
abbrev pub candidates_of_call : MemoryState → Call → List Choice
candidates_of_call s call = candidates s.memory (view_of s call.thread) call.access

-- Drawn from a seed: the atomic call of number k of the thread takes the candidate of number w mod c, where w is word k of
-- the thread's generator, and c the number of candidates for the memory and the view before the call.
abbrev pub CallsAreDrawn : Program → ℕ → List Call → ℕ → Type 0
CallsAreDrawn p thread seen seed =
    (before : List Call) (call : Call) (after : List Call) → seen ≡ before ++ call ∷ after → call.thread ≡ thread → is_atomic_event call.event ≡ true
    → let choices = candidates_of_call (memory_state_after (opening_of p) before) call in
    slice_get choices (word (generator seed thread) (atomic_entries_of thread (entries_of before)) % length choices) ≡ Some (choice_of_event call.event)

-- The thread has seen a history, and its own calls in it follow its code. They keep to the budget of steps, and use it up where
-- they end for it. They come to an end, unless the history ends in a failure. Their choices are drawn from the seed.
pub record Worked (p : Program) (thread : ℕ) (seen own : List Call) (seed steps : ℕ) : Type 0 where
  pub history : IsHistoryOf p seen
  pub own_is : own ≡ calls_by thread seen
  pub follows : FollowsThread p thread own
  pub within : used_steps (entries_of own) thread ≤ steps
  pub spent : has_spent (entries_of own) thread ≡ true → used_steps (entries_of own) thread ≡ steps
  pub whole : (has_ended (entries_of own) thread ≡ true) ⊎ (last_fails (entries_of seen) ≡ true)
  pub drawn : CallsAreDrawn p thread seen seed
