-- Related states: memories and the views of all threads.
use Rattle.std.specs.Prelude.{◌≡◌, ℕ, ℤ, ◌<◌, true, false, List, length}
use Rattle.values_undef.specs.Matching.{IsAccessBelow}
use Rattle.values_undef.specs.declared.access.Access.{Access}
use Rattle.values_undef.specs.declared.access.Access.TheVariants.{NaRead, NaWrite}
use Rattle.values_undef.specs.declared.access.Choice.{Choice}
use Rattle.views.specs.ThreadView.{ThreadView}
use Rattle.message_memory.specs.Memory.{Memory, IsClosedView}
use Rattle.message_memory.specs.Step.{IsLegal, IsProper, releases_by}
use Rattle.message_memory.specs.History.{MemoryState, view_of, with_view, initial_memory_state}
use Rattle.memory_relation.specs.Relation.{Pairing, hides, HidesNothing, AreMemoriesRelated, AreViewsRelated, GoesOn, next, settle, opening_pairing}
use Rattle.memory_relation.specs.Answering.{IsAnswered}

-- the pairing after an access of the source that answers one of the target
abbrev pub pairing_after : Pairing → Memory → Access → Pairing
pairing_after p s (NaWrite x b) = settle p x (next s x)
pairing_after p s b = p

-- what a thread may do while it has locations pending: it reads none of these, and hands nothing on
abbrev pub MayBeMade : Pairing → ℕ → Access → Type 0
MayBeMade p i (NaRead x) = hides p i x ≡ false
MayBeMade p i a = releases_by a ≡ true → HidesNothing p i

-- each access of the target is answered by the source's
abbrev pub AccessesAreAnswered : Type 0
AccessesAreAnswered = (p : Pairing) (i : ℕ) (t s : Memory) (v w : ThreadView) (a b : Access) (c : Choice)
    → AreMemoriesRelated p t s → AreViewsRelated p i t s v w → IsClosedView t v → IsAccessBelow a b → IsProper t a → IsLegal t v a c → MayBeMade p i a
    → IsAnswered p (pairing_after p s b) i t s v w a b c

pub record AreStatesRelated (p : Pairing) (t s : MemoryState) : Type 0 where
  pub memories : AreMemoriesRelated p t.memory s.memory
  pub threads : length s.views ≡ length t.views
  pub views : (i : ℕ) → i < length t.views → AreViewsRelated p i t.memory s.memory (view_of t i) (view_of s i)

-- states stay related where one thread goes on
abbrev pub StatesGoOn : Type 0
StatesGoOn = (p q : Pairing) (i : ℕ) (t s : MemoryState) (m n : Memory) (v w : ThreadView) → AreStatesRelated p t s → i < length t.views → GoesOn p q i t.memory s.memory m n v w
    → AreStatesRelated q (with_view t i m v) (with_view s i n w)

abbrev pub OpeningStatesAreRelated : Type 0
OpeningStatesAreRelated = (na atomic : List ℤ) (threads : ℕ) → AreStatesRelated (opening_pairing (length na)) (initial_memory_state na atomic threads) (initial_memory_state na atomic threads)
