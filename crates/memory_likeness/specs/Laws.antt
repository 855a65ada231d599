-- What holds of memories that are alike.
use Rattle.std.specs.Prelude.{ℕ, ℤ, ◌+◌, ◌<◌, List, length}
use Rattle.views.specs.ThreadView.{ThreadView, zero_view}
use Rattle.message_memory.specs.Memory.{Memory, initial_memory, view_index}
pub use Rattle.memory_likeness.specs.Answering.{AccessesAreFollowed}
use Rattle.memory_likeness.specs.Likeness.{AreViewsAlike, AreMemoriesAlike}
use Rattle.memory_likeness.specs.Moved.{IsRisingMap, moved, moved_view}

-- the first memory is alike to itself, and so are the views that have seen nothing
abbrev pub OpeningsAreAlike : Type 0
OpeningsAreAlike = (na atomic : List ℤ) → AreMemoriesAlike (initial_memory na atomic) (initial_memory na atomic)
    × AreViewsAlike (initial_memory na atomic) (initial_memory na atomic) (zero_view (length na + length atomic)) (zero_view (length na + length atomic))

-- what is alike to a memory is alike to it with its timestamps moved
abbrev pub MovedIsAlike : Type 0
MovedIsAlike = (s t : Memory) (y : ℕ) (g : ℕ → ℕ) → IsRisingMap g → AreMemoriesAlike s t → y < length s.atomic
    → AreMemoriesAlike s (moved t y g) × ((v w : ThreadView) → AreViewsAlike s t v w → AreViewsAlike s (moved t y g) v (moved_view (view_index t y) g w))
