-- What holds of every history of a shared memory, and of the lists that a journal weaves.
use Rattle.std.specs.Prelude.{◌≡◌, ℕ, ◌-◌, ◌<◌, true, List, [], length, slice_index_or}
use mathlib.Core.List.{IsPrefix}
use Rattle.message_memory.specs.declared.history.Call.{Call}
use Rattle.message_memory.specs.History.{calls_by, entries_of}
use Rattle.shared_memory.specs.declared.params.SharedParams.{SharedParams}
use Rattle.shared_memory.specs.Slot.{IsHistory, memory_with, view_with}
use Rattle.shared_memory.specs.Answers.{FailsAt}
use Rattle.shared_memory.specs.Turns.{AllBelow}
use Rattle.shared_memory.specs.Passes.{weave}

-- a history is woven of each thread's calls, by the threads of its journal
abbrev pub HistoriesAreWoven : Type 0
HistoriesAreWoven = (history : List Call) (lists : List (List Call)) → AllBelow (length lists) history
    → ((i : ℕ) → i < length lists → slice_index_or lists i [] ≡ calls_by i history) → weave (entries_of history) lists ≡ history

-- a memory has failed by the last call alone
abbrev pub FailedMemoriesEnd : Type 0
FailedMemoriesEnd = (params : SharedParams) (history : List Call) → IsHistory params history → (memory_with params history).failed ≡ true → FailsAt history (length history - 1)

-- the calls of others leave the view of a thread
abbrev pub ViewsWait : Type 0
ViewsWait = (params : SharedParams) (history : List Call) (i : ℕ) (seen : List Call) → IsPrefix seen history → calls_by i seen ≡ calls_by i history → view_with params seen i ≡ view_with params history i
