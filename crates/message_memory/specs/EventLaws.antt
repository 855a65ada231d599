-- What the event of a step tells of its access, and what an access needs to be proper.
use Rattle.std.specs.Prelude.{◌≡◌, ◌↔◌, ℕ, ◌+◌, Bool, true, false, length}
use Rattle.values_undef.specs.Access.{leaves_choice, is_failure, is_atomic_event, is_read, ends_thread, is_spend}
use Rattle.values_undef.specs.declared.value.Val.{Val}
use Rattle.values_undef.specs.declared.access.Access.{Access}
use Rattle.values_undef.specs.declared.access.Access.TheVariants.{NaRead, NaWrite, Read, Write, Update, Fence, Print, Fail, Finish, Spend}
use Rattle.values_undef.specs.declared.access.Choice.{Choice}
use Rattle.values_undef.specs.declared.access.Event.{Event}
use Rattle.values_undef.specs.declared.access.Event.TheVariants as event
use Rattle.views.specs.ThreadView.{ThreadView}
use Rattle.message_memory.specs.Memory.{Memory, location_in}
use Rattle.message_memory.specs.Step.{IsProper, MemStep}
use Rattle.message_memory.specs.Candidates.{IsAtomic}

-- the access reads a non-atomic location
abbrev pub is_load : Access → Bool
is_load (NaRead x) = true
is_load (NaWrite x value) = false
is_load (Read y order) = false
is_load (Write y order value) = false
is_load (Update y order kind) = false
is_load (Fence order) = false
is_load (Print n) = false
is_load (Fail cause) = false
is_load Finish = false
is_load Spend = false

-- the access is the end of its thread, or the end of its budget
abbrev pub is_end : Access → Bool
is_end (NaRead x) = false
is_end (NaWrite x value) = false
is_end (Read y order) = false
is_end (Write y order value) = false
is_end (Update y order kind) = false
is_end (Fence order) = false
is_end (Print n) = false
is_end (Fail cause) = false
is_end Finish = true
is_end Spend = true

-- the access is the end of its thread's budget
abbrev pub spends : Access → Bool
spends (NaRead x) = false
spends (NaWrite x value) = false
spends (Read y order) = false
spends (Write y order value) = false
spends (Update y order kind) = false
spends (Fence order) = false
spends (Print n) = false
spends (Fail cause) = false
spends Finish = false
spends Spend = true

-- an event is of the kind of its access
pub record IsOfKind (a : Access) (e : Event) : Type 0 where
  pub load : is_read e ≡ is_load a
  pub atomic : is_atomic_event e ≡ leaves_choice a
  pub ends : ends_thread e ≡ is_end a
  pub spends : is_spend e ≡ spends a

abbrev pub EventsAreOfTheirKind : Type 0
EventsAreOfTheirKind = (m m' : Memory) (v v' : ThreadView) (i : ℕ) (a : Access) (c : Choice) (e : Event) → MemStep m v i a c e m' v' → IsOfKind a e

-- a write of a non-atomic location that doesn't fail has the version one higher, and leaves the written value with it
abbrev pub StoresAreOneHigher : Type 0
StoresAreOneHigher = (m m' : Memory) (v v' : ThreadView) (i x : ℕ) (n : Val) (c : Choice) (e : Event) → IsProper m (NaWrite x n) → MemStep m v i (NaWrite x n) c e m' v' → is_failure e ≡ false
    → (e ≡ event.NaWrite x n ((location_in m x).version + 1)) × (location_in m' x ≡ record { value = n; version = (location_in m x).version + 1 })

-- what is proper for one memory is so for another with as many locations
abbrev pub ProperByLocations : Type 0
ProperByLocations = (m n : Memory) (a : Access) → length m.na ≡ length n.na → length m.atomic ≡ length n.atomic → IsProper n a → IsProper m a

-- an access is one to an atomic location exactly where it leaves a choice
abbrev pub AtomicAccessesLeaveChoices : Type 0
AtomicAccessesLeaveChoices = (a : Access) → IsAtomic a ↔ (leaves_choice a ≡ true)
