-- An access of one memory is answered by the same access of one that is like it.
use Rattle.std.specs.Prelude.{◌≡◌, ℕ, ◌+◌, Bool, true, false, IsSome, if◌then◌else◌}
use Rattle.values_undef.specs.Access.{leaves_choice}
use Rattle.values_undef.specs.declared.access.Access.{Access}
use Rattle.values_undef.specs.declared.access.Access.TheVariants.{Read, Write, Update}
use Rattle.values_undef.specs.declared.access.Choice.{Choice}
use Rattle.values_undef.specs.declared.access.Choice.TheVariants.{Plain, Message, Place, Take}
use Rattle.views.specs.ThreadView.{ThreadView}
use Rattle.message_memory.specs.Memory.{Memory, messages, message_at, view_index}
use Rattle.message_memory.specs.Step.{IsLegal, IsProper, StepResult, step_result, read_at, succeeds}
use Rattle.message_memory.specs.Candidates.{location_of}
use Rattle.memory_likeness.specs.Likeness.{AreViewsAlike, AreMemoriesAlike, without_stamps}
use Rattle.memory_likeness.specs.Moved.{moved, moved_view, opened}

-- the memories s and t have become s' and t', and are alike again, with the views v' and w' and those of the other threads
pub record StayAlike (s t s' t' : Memory) (v' w' : ThreadView) : Type 0 where
  pub memories : AreMemoriesAlike s' t'
  pub views : AreViewsAlike s' t' v' w'
  pub others : (v w : ThreadView) → AreViewsAlike s t v w → AreViewsAlike s' t' v w

-- what comes of an access, on both sides
pub record AreResultsAlike (s t : Memory) (o p : StepResult) : Type 0 where
  pub event : without_stamps p.event ≡ without_stamps o.event
  pub alike : StayAlike s t o.memory p.memory o.view p.view

-- the access with choice c of s is answered by the one with choice d of t
pub record IsAnswered (s t : Memory) (v w : ThreadView) (i : ℕ) (a : Access) (c d : Choice) : Type 0 where
  pub legal : IsLegal t w a d
  pub result : AreResultsAlike s t (step_result s v i a c) (step_result t w i a d)

-- ---- what of t answers: behind a message that ends at b

-- the access puts in a message behind the one that ends at b
abbrev pub puts_in : Memory → Access → ℕ → Bool
puts_in m (Write y order value) b = true
puts_in m (Update y order kind) b = succeeds kind (read_at m y b).value
puts_in m _ b = false

-- the memory and a view of it, after room has been made for that
abbrev pub made_room : Memory → Access → ℕ → Memory
made_room m a b = if puts_in m a b then moved m (location_of a) (opened b) else m

abbrev pub view_with_room : Memory → ThreadView → Access → ℕ → ThreadView
view_with_room m v a b = if puts_in m a b then moved_view (view_index m (location_of a)) (opened b) v else v

-- the choice of an access that reads the message which ends at b, or puts in one behind it
abbrev pub choice_behind : Memory → Access → ℕ → Choice
choice_behind m (Read y order) b = Message b
choice_behind m (Write y order value) b = Place (b + 1) (b + 2)
choice_behind m (Update y order kind) b = if succeeds kind (read_at m y b).value then Take b (b + 2) else Message b
choice_behind m _ b = Plain

-- the access with choice c of s is answered by the one of t that reads, or puts in behind, the message that ends at b
pub record IsFollowed (s t : Memory) (v w : ThreadView) (i : ℕ) (a : Access) (c : Choice) (b : ℕ) : Type 0 where
  pub found : leaves_choice a ≡ true → IsSome (message_at b (messages t (location_of a)))
  pub answered : IsAnswered s (made_room t a b) v (view_with_room t w a b) i a c (choice_behind t a b)
  pub others : (p q : ThreadView) → AreViewsAlike s t p q → AreViewsAlike s (made_room t a b) p (view_with_room t q a b)

-- each access of s is answered by one of t
abbrev pub AccessesAreFollowed : Type 0
AccessesAreFollowed = (s t : Memory) (v w : ThreadView) (i : ℕ) (a : Access) (c : Choice) → AreMemoriesAlike s t → AreViewsAlike s t v w → IsProper s a → IsLegal s v a c
    → (b : ℕ) × IsFollowed s t v w i a c b
