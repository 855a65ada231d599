-- The number of an entry among those of its thread.
use Rattle.std.specs.Prelude.{ℕ, zero, suc, ◌==◌, List, if◌then◌else◌}
use Rattle.message_memory.specs.declared.history.Call.{Call}
use Rattle.exec_graph.specs.Entries.{thread_at}

-- how many of the first n entries are of thread i
abbrev pub number_in : List Call → ℕ → ℕ → ℕ
number_in calls i zero = 0
number_in calls i (suc n) = if thread_at calls n == i then suc (number_in calls i n) else number_in calls i n

abbrev pub number_in_thread : List Call → ℕ → ℕ
number_in_thread calls a = number_in calls (thread_at calls a) a
