-- The messages of one location as they lie in the pool, by their places there in rising order.
use Rattle.std.specs.Prelude.{◌≡◌, ℕ, zero, suc, pos, ◌+◌, ◌-◌, ◌*◌, ◌<◌, ◌≤◌, nat_le, List, [], ◌∷◌, length, slice_index_or, if◌then◌else◌}
use Rattle.message_memory.specs.declared.message.Message.{Message}
use Rattle.message_memory.specs.Memory.{Messages, first_message}
use Rattle.indexed_memory.specs.declared.runs.Run.{Run}

-- the message of number k at these places, from 0
abbrev pub message_of : List Message → List ℕ → ℕ → Message
message_of pool places k = slice_index_or pool (slice_index_or places k 0) (first_message 0 (pos 0))

-- the first k of them, newest first
abbrev pub newest_first : List Message → List ℕ → ℕ → Messages
newest_first pool places zero = []
newest_first pool places (suc k) = message_of pool places k ∷ newest_first pool places k

-- all of them
abbrev pub history_of : List Message → List ℕ → Messages
history_of pool places = newest_first pool places (length places)

-- they are places of the pool, and no message ends below the one before it
pub record AreSorted (pool : List Message) (places : List ℕ) : Type 0 where
  pub within : (k : ℕ) → k < length places → slice_index_or places k 0 < length pool
  pub rising : (j k : ℕ) → j ≤ k → k < length places → (message_of pool places j).to ≤ (message_of pool places k).to

-- so many of them end below the bound
pub record IsRank (pool : List Message) (places : List ℕ) (bound r : ℕ) : Type 0 where
  pub most : r ≤ length places
  pub below : (k : ℕ) → k < r → (message_of pool places k).to < bound
  pub above : (k : ℕ) → r ≤ k → k < length places → bound ≤ (message_of pool places k).to

-- the width of the gap after the message of number k
abbrev pub gap_of : List Message → List ℕ → ℕ → ℕ
gap_of pool places k = (message_of pool places (k + 1)).from - (message_of pool places k).to

-- how many of n gaps from one on are at least so wide
unfoldable pub gaps_in : List Message → List ℕ → ℕ → ℕ → ℕ → ℕ
gaps_in pool places w from zero = 0
gaps_in pool places w from (suc n) = gaps_in pool places w from n + (if nat_le w (gap_of pool places (from + n)) then 1 else 0)

-- what stands for a run that isn't there
abbrev pub no_run : Run
no_run = record { narrow = 0; wide = 0 }

-- the run of this number
abbrev pub run_of : List Message → List ℕ → ℕ → Run
run_of pool places r = record { narrow = gaps_in pool places 1 (256 * r) 256; wide = gaps_in pool places 4 (256 * r) 256 }

-- the runs are those of the gaps between the messages, as far as they are whole
pub record AreRuns (pool : List Message) (places : List ℕ) (runs : List Run) : Type 0 where
  pub known : 256 * length runs < length places
  pub all : length places ≤ 256 * length runs + 256
  pub counted : (r : ℕ) → r < length runs → slice_index_or runs r no_run ≡ run_of pool places r
