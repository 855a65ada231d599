-- What lies in the table's slot: the memory with the calls made on it so far.
use Rattle.std.specs.Prelude.{◌≡◌, ℕ, ◌+◌, ◌*◌, ◌^◌, ◌≤◌, List, [], ◌∷◌, length}
use Rattle.values_undef.specs.declared.access.Access.{Access}
use Rattle.values_undef.specs.declared.access.Event.{Event}
use Rattle.values_undef.specs.declared.journal.Entry.{Entry}
use Rattle.il_syntax.specs.declared.program.Program.{Program}
use Rattle.il_syntax.specs.Given.{declared_values}
use Rattle.views.specs.ThreadView.{ThreadView}
use Rattle.message_memory.specs.declared.history.Call.{Call}
use Rattle.message_memory.specs.Memory.{Memory, messages, last_to, initial_memory}
use Rattle.message_memory.specs.History.{MemoryState, initial_memory_state, memory_after, view_after, MemHistory}
use Rattle.shared_memory.specs.declared.params.SharedParams.{SharedParams}

-- what a memory for a program is made with
abbrev pub params_for : Program → ℕ → SharedParams
params_for p share = record { na = declared_values p.na; atomic = declared_values p.atomic; threads = length p.threads; share = share }

-- what a shared memory was made with, and the calls so far
pub record SlotContents : Type 0 where
  pub params : SharedParams
  pub calls : List Call

abbrev pub slot_contents : SharedParams → List Call → SlotContents
slot_contents params calls = record { params = params; calls = calls }

-- the state in which a shared memory begins
abbrev pub first_state : SharedParams → MemoryState
first_state params = initial_memory_state params.na params.atomic params.threads

-- the calls are a history of the memory that the declared values open, for so many threads
abbrev pub IsHistory : SharedParams → List Call → Type 0
IsHistory params calls = MemHistory params.na params.atomic params.threads calls

-- the memory after them, and the view of a thread
abbrev pub memory_with : SharedParams → List Call → Memory
memory_with params calls = memory_after (first_state params) calls

abbrev pub view_with : SharedParams → List Call → ℕ → ThreadView
view_with params calls thread = view_after (first_state params) calls thread

-- the memory in which the locations have their declared values
abbrev pub first_memory : SharedParams → Memory
first_memory params = initial_memory params.na params.atomic

abbrev pub call_of : ℕ → ℕ → Access → Event → Call
call_of thread silent access event = record { thread = thread; silent = silent; access = access; event = event }

-- each entry with its access
abbrev pub calls_from : List Entry → List Access → List Call
calls_from [] accesses = []
calls_from (entry ∷ entries) [] = []
calls_from (entry ∷ entries) (access ∷ accesses) = call_of entry.thread entry.silent access entry.event ∷ calls_from entries accesses

-- the limits of a shared memory
pub record IsSmall (params : SharedParams) : Type 0 where
  pub na : length params.na ≤ 16
  pub atomic : length params.atomic ≤ 16
  pub some_thread : 1 ≤ params.threads
  pub threads : params.threads ≤ 16
  pub share : params.share ≤ 16385

-- The calls are a history, the memory is the one after them, no message ends past 2^21 times their number, and
-- there is room for the shares of all threads.
pub record IsKept (memory : Memory) (spare : ℕ) (params : SharedParams) (journal : List Entry) (accesses : List Access) (journal_capacity access_capacity : ℕ) : Type 0 where
  pub small : IsSmall params
  pub alike : length journal ≡ length accesses
  pub history : IsHistory params (calls_from journal accesses)
  pub memory_is : memory ≡ memory_with params (calls_from journal accesses)
  pub low : (y : ℕ) → last_to (messages memory y) ≤ 2 ^ 21 * length journal
  pub room : params.threads * params.share ≤ length journal + spare
  pub journal_room : params.threads * params.share ≤ journal_capacity
  pub access_room : params.threads * params.share ≤ access_capacity
