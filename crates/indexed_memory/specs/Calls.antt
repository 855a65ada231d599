-- What the calls tell of the messages of a location, newest first.
use Rattle.std.specs.Prelude.{ℕ, zero, suc, ◌-◌, nat_lt, List, [], ◌∷◌, reverse, count_by, Option, Some, None}
use Rattle.message_memory.specs.declared.message.Message.{Message}
use Rattle.message_memory.specs.Memory.{Messages, message_at}
use Rattle.indexed_memory.specs.declared.ranks.Rank.{Rank}
use Rattle.indexed_memory.specs.declared.ranks.Rank.TheVariants.{At, Between}

-- how many messages end below the timestamp
abbrev pub below : ℕ → Messages → ℕ
below to h = count_by (λ m. nat_lt m.to to) h

-- where the timestamp stands among them
abbrev pub rank_by : ℕ → Option Message → Rank
rank_by k (Some m) = At k
rank_by k None = Between k

abbrev pub rank_in : ℕ → Messages → Rank
rank_in to h = rank_by (below to h) (message_at to h)

-- the width of the gap after the message of number k by rising timestamp
abbrev pub gap_after : ℕ → List Message → Option ℕ
gap_after k [] = None
gap_after k (m ∷ []) = None
gap_after zero (m ∷ n ∷ h) = Some (n.from - m.to)
gap_after (suc k) (m ∷ n ∷ h) = gap_after k (n ∷ h)

abbrev pub gap_in : ℕ → Messages → Option ℕ
gap_in k h = gap_after k (reverse h)
