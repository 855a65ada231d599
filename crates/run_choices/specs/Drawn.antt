-- Journals whose choices were drawn from a seed, or picked by a list.
use Rattle.std.specs.Prelude.{◌≡◌, ℕ, ◌+◌, ◌%◌, ◌==◌, ◌&&◌, true, if◌then◌else◌, List, [], ◌∷◌, ◌++◌, length, Some, slice_get}
use Rattle.std.specs.Option.{option_map_or}
use Rattle.values_undef.specs.Access.{choice_of_event, is_atomic_event}
use Rattle.values_undef.specs.declared.access.Choice.{Choice}
use Rattle.values_undef.specs.declared.journal.Entry.{Entry}
use Rattle.il_syntax.specs.declared.program.Program.{Program}
use Rattle.view_machine.specs.State.{State, initial_state}
use Rattle.view_machine.specs.Runs.{after_silent, state_after}
use Rattle.chooser.specs.Draws.{generator, word}
use Rattle.run_choices.specs.Candidates.{candidates_in}

-- the choices that an entry had, in the state s before it
abbrev pub candidates_of : Program → State → Entry → List Choice
candidates_of p s entry = candidates_in (after_silent p entry.thread entry.silent s) entry.thread

-- it took the one of this number
abbrev pub TakesCandidate : Program → State → Entry → ℕ → Type 0
TakesCandidate p s entry k = slice_get (candidates_of p s entry) k ≡ Some (choice_of_event entry.event)

-- how many atomic entries there are, and how many of a thread
abbrev pub atomic_entries : List Entry → ℕ
atomic_entries [] = 0
atomic_entries (entry ∷ rest) = (if is_atomic_event entry.event then 1 else 0) + atomic_entries rest

abbrev pub atomic_entries_of : ℕ → List Entry → ℕ
atomic_entries_of thread [] = 0
atomic_entries_of thread (entry ∷ rest) =
    (if entry.thread == thread && is_atomic_event entry.event then 1 else 0) + atomic_entries_of thread rest

-- Drawn from a seed: the atomic entry of number k of a thread takes the candidate of number w mod c, where
-- w is word k of the thread's generator, and c the number of candidates. Numbers are from 0.
abbrev pub Drawn : Program → List Entry → ℕ → Type 0
Drawn p entries seed =
    (before : List Entry) (entry : Entry) (after : List Entry) → entries ≡ before ++ entry ∷ after → is_atomic_event entry.event ≡ true
    → let s = state_after p (initial_state p) before in
    let w = word (generator seed entry.thread) (atomic_entries_of entry.thread before) in
    TakesCandidate p s entry (w % length (candidates_of p s entry))

-- Picked by a list: the atomic entry of number k, over all threads, takes the candidate of number
-- list[k] mod c, where c is the number of candidates, and candidate 0 after the list's end.
abbrev pub Picked : Program → List Entry → List ℕ → Type 0
Picked p entries list =
    (before : List Entry) (entry : Entry) (after : List Entry) → entries ≡ before ++ entry ∷ after → is_atomic_event entry.event ≡ true
    → let s = state_after p (initial_state p) before in
    TakesCandidate p s entry (option_map_or (λ n. n % length (candidates_of p s entry)) (slice_get list (atomic_entries before)) 0)
