-- How large the timestamps are that a journal tells.
use Rattle.std.specs.Prelude.{ℕ, ◌≤◌, max, List}
use Rattle.std.specs.List.{AllByRecursion}
use Rattle.values_undef.specs.declared.access.Event.{Event}
use Rattle.values_undef.specs.declared.access.Event.TheVariants.{NaRead, NaWrite, Read, Write, Update, Miss, Fence, Print, Fail, FailCompare, Finish, Spend}
use Rattle.values_undef.specs.declared.journal.Entry.{Entry}

abbrev pub largest_stamp : Event → ℕ
largest_stamp (NaRead x v) = 0
largest_stamp (NaWrite x v version) = 0
largest_stamp (Read y order v to) = to
largest_stamp (Write y order v from to) = max from to
largest_stamp (Update y order old new read to) = max read to
largest_stamp (Miss y order old read) = read
largest_stamp (Fence order) = 0
largest_stamp (Print v) = 0
largest_stamp (Fail cause) = 0
largest_stamp (FailCompare y read) = read
largest_stamp Finish = 0
largest_stamp Spend = 0

-- no timestamp of them is larger
abbrev pub AreSmall : ℕ → List Entry → Type 0
AreSmall most entries = AllByRecursion (λ e. largest_stamp e.event ≤ most) entries
