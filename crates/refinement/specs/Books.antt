-- The books of a run that is played from the journal of another: what has been recorded, and how many silent steps of each thread are not recorded yet.
use Rattle.std.specs.Prelude.{◌≡◌, ℕ, ◌+◌, ◌<◌, ◌≤◌, Bool, true, false, List, [], ◌∷◌, ◌++◌, length, slice_index, slice_set, ◌==◌, if◌then◌else◌}
use Rattle.std.specs.List.{AllZip}
use Rattle.values_undef.specs.declared.access.Event.{Event}
use Rattle.values_undef.specs.Access.{is_failure, weight}
use Rattle.values_undef.specs.Journal.{used_steps}
use Rattle.values_undef.specs.Matching.{IsEventBelow, is_traced}
use Rattle.values_undef.specs.declared.journal.Entry.{Entry}
use Rattle.refinement.specs.Refinement.{trace, IsTracedBelow, Refines}

-- the number where the two threads are one
abbrev pub at_thread : ℕ → ℕ → ℕ → ℕ
at_thread i n j = if i == j then n else 0

-- within an entry of thread i, of whose silent steps k are made; `news` says that the other program may have loads of its own
pub record OpenBooks (news : Bool) (i k : ℕ) (done js : List Entry) (carry : List ℕ) : Type 0 where
  pub traces : AllZip IsTracedBelow (trace done) (trace js)
  pub within : (j : ℕ) → used_steps js j + slice_index carry j ≤ used_steps done j + at_thread i k j
  pub exact : news ≡ false → (j : ℕ) → used_steps js j + slice_index carry j ≡ used_steps done j + at_thread i k j
  pub idle : news ≡ false → (j : ℕ) → (j ≡ i → ⊥) → slice_index carry j ≡ 0

-- between two entries
pub record ClosedBooks (news : Bool) (done js : List Entry) (carry : List ℕ) : Type 0 where
  pub traces : AllZip IsTracedBelow (trace done) (trace js)
  pub within : (j : ℕ) → used_steps js j + slice_index carry j ≤ used_steps done j
  pub exact : news ≡ false → (j : ℕ) → used_steps js j ≡ used_steps done j
  pub idle : news ≡ false → (j : ℕ) → slice_index carry j ≡ 0

abbrev pub entry_of : ℕ → ℕ → Event → Entry
entry_of i n e = record { thread = i; silent = n; event = e }

-- the journal with what the thread did last
abbrev pub recorded : List Entry → List ℕ → ℕ → Event → List Entry
recorded js carry i e = js ++ entry_of i (slice_index carry i) e ∷ []

abbrev pub BooksBegin : Type 0
BooksBegin = (news : Bool) (carry : List ℕ) → ((j : ℕ) → slice_index carry j ≡ 0) → ClosedBooks news [] [] carry

abbrev pub BooksOpen : Type 0
BooksOpen = (news : Bool) (i : ℕ) (done js : List Entry) (carry : List ℕ) → ClosedBooks news done js carry → OpenBooks news i 0 done js carry

-- a silent step, answered by a silent step
abbrev pub SilentStepsAreCarried : Type 0
SilentStepsAreCarried = (news : Bool) (i k : ℕ) (done js : List Entry) (carry : List ℕ) → i < length carry → OpenBooks news i k done js carry
    → OpenBooks news i (k + 1) done js (slice_set carry i (slice_index carry i + 1))

-- a silent step, answered by an access to a non-atomic location
abbrev pub QuietStepsAreRecorded : Type 0
QuietStepsAreRecorded = (news : Bool) (i k : ℕ) (done js : List Entry) (carry : List ℕ) (f : Event) → i < length carry → is_traced f ≡ false → OpenBooks news i k done js carry
    → OpenBooks news i (k + 1) done (recorded js carry i f) (slice_set carry i 0)

-- the event of the entry, answered by one that it stands below
abbrev pub EventsAreRecorded : Type 0
EventsAreRecorded = (news : Bool) (i k : ℕ) (done js : List Entry) (carry : List ℕ) (e f : Event) → i < length carry → IsEventBelow e f → OpenBooks news i k done js carry
    → ClosedBooks news (done ++ entry_of i k e ∷ []) (recorded js carry i f) (slice_set carry i 0)

-- a load of the other program's own is answered by nothing
abbrev pub NewsAreLeftOut : Type 0
NewsAreLeftOut = (i k : ℕ) (done js : List Entry) (carry : List ℕ) (e : Event) → is_traced e ≡ false → OpenBooks true i k done js carry → ClosedBooks true (done ++ entry_of i k e ∷ []) js carry

-- at the end of the journal
abbrev pub BooksRefine : Type 0
BooksRefine = (news : Bool) (done js : List Entry) (carry : List ℕ) → ClosedBooks news done js carry → Refines done js × (news ≡ false → (j : ℕ) → used_steps js j ≡ used_steps done j)

-- at a failure, in a silent step of the entry or in its event
abbrev pub FailuresRefine : Type 0
FailuresRefine = (news : Bool) (i k n : ℕ) (done js rest : List Entry) (carry : List ℕ) (e f : Event) → is_failure f ≡ true → k + 1 ≤ n + weight e → OpenBooks news i k done js carry
    → Refines (done ++ entry_of i n e ∷ rest) (recorded js carry i f)
