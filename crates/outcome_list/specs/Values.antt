-- The last values of a run, told by its entries alone.
use Rattle.std.specs.Prelude.{ℕ, ℤ, pos, nat_lt, ◌==◌, List, [], ◌∷◌, slice_index_or, if◌then◌else◌}
use Rattle.values_undef.specs.declared.value.Val.{Val}
use Rattle.values_undef.specs.declared.value.Val.TheVariants.{Def}
use Rattle.values_undef.specs.declared.access.Event.{Event}
use Rattle.values_undef.specs.declared.access.Event.TheVariants.{NaRead, NaWrite, Read, Write, Update, Miss, Fence, Print, Fail, FailCompare, Finish, Spend}
use Rattle.values_undef.specs.declared.journal.Entry.{Entry}
use Rattle.outcome_list.specs.declared.values.Newest.{Newest}

-- the value of non-atomic location x after an event
abbrev pub stored_after : ℕ → Val → Event → Val
stored_after x v (NaRead z n) = v
stored_after x v (NaWrite z n version) = if z == x then n else v
stored_after x v (Read y order n to) = v
stored_after x v (Write y order n from to) = v
stored_after x v (Update y order old new read to) = v
stored_after x v (Miss y order old read) = v
stored_after x v (Fence order) = v
stored_after x v (Print n) = v
stored_after x v (Fail cause) = v
stored_after x v (FailCompare y read) = v
stored_after x v Finish = v
stored_after x v Spend = v

-- the newest message is the one that ends last
abbrev pub newer : Newest → Newest → Newest
newer m n = if nat_lt m.to n.to then n else m

-- the newest message of atomic location y after an event
abbrev pub newest_after : ℕ → Newest → Event → Newest
newest_after y m (NaRead z n) = m
newest_after y m (NaWrite z n version) = m
newest_after y m (Read z order n to) = m
newest_after y m (Write z order n from to) = if z == y then newer m (record { to = to; value = n }) else m
newest_after y m (Update z order old new read to) = if z == y then newer m (record { to = to; value = new }) else m
newest_after y m (Miss z order old read) = m
newest_after y m (Fence order) = m
newest_after y m (Print n) = m
newest_after y m (Fail cause) = m
newest_after y m (FailCompare z read) = m
newest_after y m Finish = m
newest_after y m Spend = m

-- they after all entries
abbrev pub value_at_end : ℕ → Val → List Entry → Val
value_at_end x v [] = v
value_at_end x v (e ∷ entries) = value_at_end x (stored_after x v e.event) entries

abbrev pub newest_at_end : ℕ → Newest → List Entry → Newest
newest_at_end y m [] = m
newest_at_end y m (e ∷ entries) = newest_at_end y (newest_after y m e.event) entries

-- of location x, and y, of those that are declared with these values
abbrev pub last_value_of : List ℤ → List Entry → ℕ → Val
last_value_of declared entries x = value_at_end x (Def (slice_index_or declared x (pos 0))) entries

abbrev pub first_newest : ℤ → Newest
first_newest n = record { to = 0; value = Def n }

abbrev pub newest_value_of : List ℤ → List Entry → ℕ → Val
newest_value_of declared entries y = (newest_at_end y (first_newest (slice_index_or declared y (pos 0))) entries).value
