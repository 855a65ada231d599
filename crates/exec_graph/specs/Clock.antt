-- Clocks: a view with a place for each thread, in which an entry is known by its number.
use Rattle.std.specs.Prelude.{◌≡◌, ◌↔◌, ℕ, ◌+◌, ◌-◌, ◌<◌, ◌==◌, Bool, false, List, [], ◌∷◌, ◌++◌, length, slice_index, slice_index_or, Option, Some, None, if◌then◌else◌}
use Rattle.std.specs.BTreeMap.{is_at}
use Rattle.values_undef.specs.Access.{acquires, releases}
use Rattle.values_undef.specs.declared.access.Order.{Order}
use Rattle.values_undef.specs.declared.access.Event.{Event}
use Rattle.values_undef.specs.declared.access.Event.TheVariants.{NaRead, NaWrite, Read, Write, Update, Miss, Fence, Print, Fail, FailCompare, Finish, Spend}
use Rattle.views.specs.Timestamps.{joined}
use Rattle.values_undef.specs.declared.journal.Entry.{Entry}
use Rattle.message_memory.specs.Step.{acquires_by}
use Rattle.views.specs.ThreadView.{ThreadView, no_view, raised_view, heard, fenced}
use Rattle.message_memory.specs.declared.history.Call.{Call}
use Rattle.exec_graph.specs.declared.row.Row.{Row}
use Rattle.exec_graph.specs.Entries.{Stamp, thread_at, access_at, read_by}
use Rattle.exec_graph.specs.Past.{Past}
use Rattle.exec_graph.specs.Numbers.{number_in_thread}
use Rattle.exec_graph.specs.Stamps.{stamp_cmp}

-- the order of a fence
abbrev pub fence_of : Event → Option Order
fence_of (NaRead x v) = None
fence_of (NaWrite x v version) = None
fence_of (Read y order v to) = None
fence_of (Write y order v from to) = None
fence_of (Update y order old new read to) = None
fence_of (Miss y order old read) = None
fence_of (Fence order) = Some order
fence_of (Print v) = None
fence_of (Fail cause) = None
fence_of (FailCompare y read) = None
fence_of Finish = None
fence_of Spend = None

-- whether an entry that reads acquires; of a compare-exchange that fails the journal doesn't tell it
abbrev pub acquires_in : Event → Bool → Bool
acquires_in (NaRead x v) failing = false
acquires_in (NaWrite x v version) failing = false
acquires_in (Read y order v to) failing = acquires order
acquires_in (Write y order v from to) failing = false
acquires_in (Update y order old new read to) failing = acquires order
acquires_in (Miss y order old read) failing = acquires order
acquires_in (Fence order) failing = false
acquires_in (Print v) failing = false
acquires_in (Fail cause) failing = false
acquires_in (FailCompare y read) failing = failing
acquires_in Finish failing = false
acquires_in Spend failing = false

-- whether an entry that writes a message releases
abbrev pub releases_in : Event → Bool
releases_in (NaRead x v) = false
releases_in (NaWrite x v version) = false
releases_in (Read y order v to) = false
releases_in (Write y order v from to) = releases order
releases_in (Update y order old new read to) = releases order
releases_in (Miss y order old read) = false
releases_in (Fence order) = false
releases_in (Print v) = false
releases_in (Fail cause) = false
releases_in (FailCompare y read) = false
releases_in Finish = false
releases_in Spend = false

-- what the message that is read hands on
abbrev pub times_at : (Stamp → Option (List ℕ)) → Option Stamp → Option (List ℕ)
times_at handed None = None
times_at handed (Some stamp) = handed stamp

-- the clock of thread t after its entry number u, by the order of a fence, whether it acquires, and what the message
-- that it read hands on
abbrev pub clock_by : ThreadView → ℕ → ℕ → Option Order → Bool → Option (List ℕ) → ThreadView
clock_by v t u (Some order) acquire o = fenced (raised_view v t u) order
clock_by v t u None acquire None = raised_view v t u
clock_by v t u None acquire (Some times) = heard (raised_view v t u) times acquire

-- what the message of an entry hands on, by the clock after it
abbrev pub handed_by : ThreadView → Bool → Option (List ℕ) → List ℕ
handed_by v release None = if release then v.cur else v.rel
handed_by v release (Some times) = joined (if release then v.cur else v.rel) times

-- what is handed on by a message after an entry that wrote one, or did not
abbrev pub with_times : Option (List ℕ) → List ℕ → Stamp → Option Stamp → Option (List ℕ)
with_times before times stamp None = before
with_times before times stamp (Some written) = if is_at (stamp_cmp written) stamp then Some times else before

-- the row of entry k: its thread, its number, and by each thread how many of its entries stand before k
pub record IsClockRow (calls : List Call) (k : ℕ) (row : Row) : Type 0 where
  pub thread : row.thread ≡ thread_at calls k
  pub number : row.number ≡ number_in_thread calls k
  pub counts : (a : ℕ) → a < length calls → (number_in_thread calls a < slice_index row.counts (thread_at calls a)) ↔ Past calls k a

abbrev pub AreRows : List Call → List Row → Type 0
AreRows calls rows = (length rows ≡ length calls) × ((k : ℕ) (d : Row) → k < length calls → IsClockRow calls k (slice_index_or rows k d))

-- whether the last entry acquires: a compare-exchange that fails is the last
abbrev pub last_acquires : List Call → Bool
last_acquires calls = acquires_by (access_at calls (length calls - 1))

-- ---- one entry

-- the clock of its thread after it
abbrev pub next_clock : List ThreadView → List ℕ → (Stamp → Option (List ℕ)) → Bool → Entry → ThreadView
next_clock clocks numbers handed failing e =
    clock_by (slice_index_or clocks e.thread no_view) e.thread (slice_index numbers e.thread + 1) (fence_of e.event) (acquires_in e.event failing) (times_at handed (read_by e.event))

-- a row is put at the end
pub record HasPushed (before after : List Row) (thread number : ℕ) (cur : List ℕ) : Type 0 where
  pub row : Row
  pub pushed : after ≡ before ++ row ∷ []
  pub of_thread : row.thread ≡ thread
  pub of_number : row.number ≡ number
  pub counts : (i : ℕ) → i < length cur → slice_index row.counts i ≡ (if i == thread then number else slice_index cur i)
