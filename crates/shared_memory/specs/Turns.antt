-- The rule of the table, and what each step tells.
-- Word 0 is the turn: 0 while it is free, else one more than the number of the thread that has it. Word 1 is the
-- number of calls. The slot has the memory with its calls while the turn is free.
use Rattle.std.specs.Prelude.{◌≡◌, ◌≢◌, ℕ, suc, ◌+◌, ◌*◌, ◌<◌, ◌≤◌, Bool, true, false, List, [], ◌∷◌, ◌++◌, length, take, drop, replicate, slice_index}
use mathlib.Core.Option.{some}
use mathlib.Core.List.{IsPrefix}
use lib.ListN.{get_elem?}
use Rattle.std.specs.List.{AllByRecursion}
use Rattle.atomic_table.specs.Table.{State, Me, Step}
use Rattle.message_memory.specs.declared.history.Call.{Call}
use Rattle.message_memory.specs.History.{calls_by}
use Rattle.shared_memory.specs.declared.params.SharedParams.{SharedParams}
use Rattle.shared_memory.specs.declared.params.SeatNote.{SeatNote}
use Rattle.shared_memory.specs.Slot.{SlotContents, slot_contents}

-- a seat's note, and what it has taken out of the slot
abbrev pub Seated : Type 0
Seated = Me SlotContents SeatNote

abbrev pub note_of : SharedParams → ℕ → List (List Call) → Bool → SeatNote
note_of params first seens holds = record { params = params; first = first; seens = seens; holds = holds }

-- a seat without the turn
abbrev pub resting : SharedParams → ℕ → List (List Call) → SeatNote
resting params first seens = note_of params first seens false

-- a thread's seat that has the turn, and has seen all calls
abbrev pub holding : SharedParams → ℕ → List Call → SeatNote
holding params thread history = note_of params thread (history ∷ []) true

-- the first seat is that of all threads
abbrev pub starting : SharedParams → SeatNote
starting params = resting params 0 (replicate params.threads [])

-- of each list, with the number of its thread
abbrev pub AllFrom : (ℕ → List Call → Type 0) → ℕ → List (List Call) → Type 0
AllFrom P first [] = Unit {0}
AllFrom P first (x ∷ xs) = P first x × AllFrom P (suc first) xs

-- each call is of a thread below the number
abbrev pub AllBelow : ℕ → List Call → Type 0
AllBelow threads calls = AllByRecursion (λ call. call.thread < threads) calls

-- what holds of one thread of a seat, with the list that was seen for it
pub record ThreadKnown (params : SharedParams) (history : List Call) (owner : ℕ → ℕ) (seat : ℕ) (told : SharedParams) (thread : ℕ) (seen : List Call) : Type 0 where
  pub owns : owner thread ≡ seat
  pub named : thread < params.threads
  pub begins : IsPrefix seen history
  pub own : calls_by thread seen ≡ calls_by thread history
  pub same : told ≡ params

pub record SeatKnown (params : SharedParams) (history : List Call) (turn : ℕ) (owner : ℕ → ℕ) (seat : ℕ) (note : SeatNote) : Type 0 where
  pub each_thread : AllFrom (ThreadKnown params history owner seat note.params) note.first note.seens
  pub turn_is : note.holds ≡ true → (turn ≡ note.first + 1) × (note.seens ≡ history ∷ [])

-- the rule: there is one history, of which each seat has seen a beginning with all calls of its threads
pub record TurnRule (params : SharedParams) (s : State SlotContents SeatNote) : Type 0 where
  pub history : List Call
  pub owner : ℕ → ℕ
  pub wide : length s.words ≡ 2
  pub deep : length s.homes ≡ 1
  pub counted : slice_index s.words 1 ≡ length history
  pub threads_named : AllBelow params.threads history
  pub shares_kept : (i : ℕ) → length (calls_by i history) ≤ params.share
  pub each_seat : (j : ℕ) (v : SeatNote) → get_elem? s.views j ≡ some v → SeatKnown params history (slice_index s.words 0) owner j v
  pub free : slice_index s.words 0 ≡ 0 → get_elem? s.homes 0 ≡ some (some (slot_contents params history))
  pub held : slice_index s.words 0 ≢ 0 → (j : ℕ) × (v : SeatNote) × (get_elem? s.views j ≡ some v) × (v.holds ≡ true)

abbrev pub first_list : List (List Call) → List Call
first_list [] = []
first_list (x ∷ xs) = x

-- what a thread's seat has seen
abbrev pub seen_of : SeatNote → List Call
seen_of v = first_list v.seens

abbrev pub carried_calls : List (ℕ × SlotContents) → List Call
carried_calls [] = []
carried_calls (x ∷ xs) = x.1.calls

-- a thread's seat between two calls
abbrev pub at_rest : SharedParams → ℕ → List Call → Seated
at_rest params thread history = (resting params thread (history ∷ []), [])

-- one that has the turn, knows this history, and has the slot with these calls
abbrev pub in_turn : SharedParams → ℕ → List Call → List Call → Seated
in_turn params thread history calls = (holding params thread history, (0, slot_contents params calls) ∷ [])

-- The turn was taken, with all calls so far, which begin with those that had been seen and have no others of the
-- thread. There is room for one more, if the thread's share has it.
pub record Locked (v : SeatNote) (m : Seated) : Type 0 where
  pub seat : m ≡ in_turn v.params v.first (seen_of m.0) (seen_of m.0)
  pub begins : IsPrefix (seen_of v) (seen_of m.0)
  pub own : calls_by v.first (seen_of v) ≡ calls_by v.first (seen_of m.0)
  pub named : v.first < v.params.threads
  pub room : length (calls_by v.first (seen_of v)) < v.params.share → length (seen_of m.0) < v.params.threads * v.params.share

abbrev pub locked : Step SlotContents → Seated → ℕ → Seated → Type 0
locked st m found m' = (found ≡ 0 → Locked m.0 m') × (found ≢ 0 → m' ≡ m)

abbrev pub committed : Step SlotContents → Seated → ℕ → Seated → Type 0
committed st m found m' = m' ≡ in_turn m.0.params m.0.first (carried_calls m.1) (carried_calls m.1)

abbrev pub unlocked : Step SlotContents → Seated → ℕ → Seated → Type 0
unlocked st m found m' = m' ≡ at_rest m.0.params m.0.first (seen_of m.0)

abbrev pub left_part : SeatNote → SeatNote
left_part v = resting v.params v.first (take 1 v.seens)

abbrev pub right_part : SeatNote → SeatNote
right_part v = resting v.params (suc v.first) (drop 1 v.seens)

abbrev pub both_parts : SeatNote → SeatNote → SeatNote
both_parts v w = resting v.params v.first (v.seens ++ w.seens)

abbrev pub spent : SeatNote
spent = resting (record { na = []; atomic = []; threads = 0; share = 0 }) 0 []
