-- The run of threads that were made apart over one memory, call by call.
use Rattle.std.specs.Prelude.{◌≡◌, ℕ, ◌<◌, false, List, ◌∷◌, ◌++◌, length}
use Rattle.il_syntax.specs.declared.program.Program.{Program}
use Rattle.message_memory.specs.declared.history.Call.{Call}
use Rattle.message_memory.specs.History.{MemoryState, initial_memory_state, memory_state_after, calls_by, entries_of}
use Rattle.thread_core.specs.declared.next.Next.TheVariants as next
use Rattle.view_machine.specs.State.{State, declared_values, next_in}
use Rattle.view_machine.specs.State as state
use Rattle.view_machine.specs.Runs.{is_spend, after_silent}
use Rattle.view_machine.specs.Runs as runs
use Rattle.view_machine.specs.Laws.{FollowsThread, IsHistoryOf}

-- the state of the memory and of all views in which a program begins
abbrev pub opening_of : Program → MemoryState
opening_of p = initial_memory_state (declared_values p.na) (declared_values p.atomic) (length p.threads)

-- the memory and the views of a state of the machine
abbrev pub seen_in : State → MemoryState
seen_in s = record { memory = s.memory; views = s.views }

-- the calls of each thread follow its code
abbrev pub FollowAll : Program → List Call → Type 0
FollowAll p calls = (i : ℕ) → i < length p.threads → FollowsThread p i (calls_by i calls)

-- the run of a merged history leads to the history's memory and views
abbrev pub MergedHistoriesLead : Type 0
MergedHistoriesLead = (p : Program) (calls : List Call) → IsHistoryOf p calls → FollowAll p calls
    → seen_in (runs.state_after p (state.initial_state p) (entries_of calls)) ≡ memory_state_after (opening_of p) calls

-- Before each call of it: the memory and the views are those of the history, and the thread asks for the
-- call's access, unless its budget ends there.
pub record IsAskedFor (p : Program) (before : List Call) (call : Call) (s : State) : Type 0 where
  pub memory : s.memory ≡ (memory_state_after (opening_of p) before).memory
  pub views : s.views ≡ (memory_state_after (opening_of p) before).views
  pub asks : is_spend call.event ≡ false → next_in s call.thread ≡ next.Access call.access

abbrev pub MergedHistoriesAsk : Type 0
MergedHistoriesAsk = (p : Program) (before : List Call) (call : Call) (after : List Call) → IsHistoryOf p (before ++ call ∷ after)
    → FollowAll p (before ++ call ∷ after)
    → IsAskedFor p before call (after_silent p call.thread call.silent (runs.state_after p (state.initial_state p) (entries_of before)))
