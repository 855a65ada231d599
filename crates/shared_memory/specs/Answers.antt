-- What one call of the memory answers.
use Rattle.std.specs.Prelude.{◌≡◌, ℕ, ◌+◌, true, List, [], ◌∷◌, ◌++◌, length, Some, slice_get}
use Rattle.values_undef.specs.Access.{choice_of_event, is_failure}
use Rattle.values_undef.specs.declared.access.Access.{Access}
use Rattle.values_undef.specs.declared.access.Event.{Event}
use Rattle.views.specs.ThreadView.{ThreadView}
use Rattle.message_memory.specs.declared.history.Call.{Call}
use Rattle.chooser.specs.Chosen.{IsChosen, chooser_after}
use Rattle.shared_memory.specs.declared.params.SharedParams.{SharedParams}
use Rattle.shared_memory.specs.declared.slot.Answer.{Answer}
use Rattle.shared_memory.specs.declared.slot.Answer.TheVariants.{Done, Stopped}
use Rattle.shared_memory.specs.Slot.{IsHistory, memory_with, view_with, call_of}

-- the calls end at this place, with one that failed
pub record FailsAt (calls : List Call) (place : ℕ) : Type 0 where
  pub call : Call
  pub found : slice_get calls place ≡ Some call
  pub failure : is_failure call.event ≡ true
  pub last : place + 1 ≡ length calls

module _ {C : Type 0} (answer : C → ℕ → ℕ → ℕ) (next : C → ℕ → ℕ → C) where
  -- The call stands behind those before it, and with them is a history. Its choice is the one that the chooser
  -- answers for the memory and the view before it.
  pub record IsDone (params : SharedParams) (before : List Call) (thread silent : ℕ) (a : Access) (chooser : C) (event : Event) (after : List Call) (view new_view : ThreadView) (new_chooser : C) : Type 0 where
    pub calls : after ≡ before ++ call_of thread silent a event ∷ []
    pub history : IsHistory params after
    pub chosen : IsChosen answer (memory_with params before) view a chooser thread (choice_of_event event)
    pub view_is : new_view ≡ view_with params after thread
    pub chooser_is : new_chooser ≡ chooser_after next (memory_with params before) view a chooser thread

  -- nothing changes, and the chooser is not asked, since the last call was a failure
  pub record IsStopped (params : SharedParams) (before : List Call) (chooser : C) (place : ℕ) (after : List Call) (view new_view : ThreadView) (new_chooser : C) : Type 0 where
    pub calls : after ≡ before
    pub history : IsHistory params after
    pub fails : FailsAt before place
    pub view_is : new_view ≡ view
    pub chooser_is : new_chooser ≡ chooser

  abbrev pub Answers : SharedParams → List Call → ℕ → ℕ → Access → C → Answer → List Call → ThreadView → ThreadView → C → Type 0
  Answers params before thread silent a chooser (Done event) after view new_view new_chooser = IsDone params before thread silent a chooser event after view new_view new_chooser
  Answers params before thread silent a chooser (Stopped place) after view new_view new_chooser = IsStopped params before chooser place after view new_view new_chooser
