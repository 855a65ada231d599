-- The definitions at work: what small programs may see, by computation alone.
use Rattle.std.proofs.Common.{◌≡◌, ℕ, pos, false, List, [], ◌∷◌, refl}
use Rattle.values_undef.specs.declared.value.Val.TheVariants.{Def, Undef}
use Rattle.values_undef.specs.declared.access.Order.TheVariants.{Rlx, Acq, Rel}
use Rattle.values_undef.specs.declared.access.UpdateKind.TheVariants.{Add}
use Rattle.values_undef.specs.declared.access.Access.{Access}
use Rattle.values_undef.specs.declared.access.Access.TheVariants.{NaRead, NaWrite, Read, Write, Update, Fence}
use Rattle.values_undef.specs.declared.access.Choice.TheVariants.{Plain, Message, Place, Take}
use Rattle.values_undef.specs.declared.access.Choice.{Choice}
use Rattle.values_undef.specs.declared.access.Event.{Event}
use Rattle.values_undef.specs.declared.access.Event.TheVariants as event
use Rattle.message_memory.specs.Memory.{messages, is_free}
use Rattle.message_memory.specs.Step.{step_result}
use Rattle.message_memory.specs.Candidates.{candidates}
use Rattle.message_memory.specs.History.{MemoryState, view_of, with_view, initial_memory_state}

-- the state after an access of a thread with a choice, and the access's event
abbrev after : MemoryState → ℕ → Access → Choice → MemoryState
after s i a c =
    let o = step_result s.memory (view_of s i) i a c in
    with_view s i o.memory o.view

abbrev event_of : MemoryState → ℕ → Access → Choice → Event
event_of s i a c = (step_result s.memory (view_of s i) i a c).event

abbrev choices : MemoryState → ℕ → Access → List Choice
choices s i a = candidates s.memory (view_of s i) a

-- ---- store buffering: y0 = 1; r = y1 beside y1 = 1; s = y0

abbrev both_written : MemoryState
both_written =
    after (after (initial_memory_state [] (pos 0 ∷ pos 0 ∷ []) 2) 0 (Write 0 Rlx (Def (pos 1))) (Place 1048576 2097152)) 1 (Write 1 Rlx (Def (pos 1))) (Place 1048576 2097152)

-- each thread may read what the other has written, or the first message
pub store_buffering_leaves_both : choices both_written 0 (Read 1 Rlx) ≡ Message 2097152 ∷ Message 0 ∷ []
store_buffering_leaves_both = refl

-- so both may read 0
pub store_buffering_reads_old : event_of both_written 0 (Read 1 Rlx) (Message 0) ≡ event.Read 1 Rlx (Def (pos 0)) 0
store_buffering_reads_old = refl

-- but its own write a thread doesn't miss
pub own_writes_are_seen : choices both_written 0 (Read 0 Rlx) ≡ Message 2097152 ∷ []
own_writes_are_seen = refl

-- ---- message passing: x = 5; y0 = 1 beside r = y0; s = x

abbrev sent_by : Access → MemoryState
sent_by a = after (after (initial_memory_state (pos 0 ∷ []) (pos 0 ∷ []) 2) 0 (NaWrite 0 (Def (pos 5))) Plain) 0 a (Place 1048576 2097152)

-- a release that is acquired passes the value on
pub release_and_acquire_pass : event_of (after (sent_by (Write 0 Rel (Def (pos 1)))) 1 (Read 0 Acq) (Message 2097152)) 1 (NaRead 0) Plain ≡ event.NaRead 0 (Def (pos 5))
release_and_acquire_pass = refl

-- with either relaxed, the read of the other location races
pub relaxed_write_passes_nothing : event_of (after (sent_by (Write 0 Rlx (Def (pos 1)))) 1 (Read 0 Acq) (Message 2097152)) 1 (NaRead 0) Plain ≡ event.NaRead 0 Undef
relaxed_write_passes_nothing = refl

pub relaxed_read_takes_nothing : event_of (after (sent_by (Write 0 Rel (Def (pos 1)))) 1 (Read 0 Rlx) (Message 2097152)) 1 (NaRead 0) Plain ≡ event.NaRead 0 Undef
relaxed_read_takes_nothing = refl

-- unless an acquire fence follows the relaxed read
pub acquire_fence_takes_it : event_of (after (after (sent_by (Write 0 Rel (Def (pos 1)))) 1 (Read 0 Rlx) (Message 2097152)) 1 (Fence Acq) Plain) 1 (NaRead 0) Plain ≡ event.NaRead 0 (Def (pos 5))
acquire_fence_takes_it = refl

-- ---- a write into a gap: two writes leave a gap below each of them

abbrev two_written : MemoryState
two_written = after (after (initial_memory_state [] (pos 0 ∷ []) 2) 0 (Write 0 Rlx (Def (pos 1))) (Place 1048576 2097152)) 0 (Write 0 Rlx (Def (pos 2))) (Place 3145728 4194304)

-- a thread that has seen neither may write behind both, between them, or before them
pub gaps_are_chosen : choices two_written 1 (Write 0 Rlx (Def (pos 3))) ≡ Place 5242880 6291456 ∷ Place 2359296 2621440 ∷ Place 262144 524288 ∷ []
gaps_are_chosen = refl

-- and the one that wrote them behind both alone
pub own_writes_bound : choices two_written 0 (Write 0 Rlx (Def (pos 3))) ≡ Place 5242880 6291456 ∷ []
own_writes_bound = refl

-- ---- a chain of updates: each begins where the message that it read ends

abbrev once_added : MemoryState
once_added = after (initial_memory_state [] (pos 0 ∷ []) 2) 0 (Update 0 Rlx (Add (Def (pos 1)))) (Take 0 1048576)

pub second_update_goes_on : event_of once_added 1 (Update 0 Rlx (Add (Def (pos 1)))) (Take 1048576 2097152) ≡ event.Update 0 Rlx (Def (pos 1)) (Def (pos 2)) 1048576 2097152
second_update_goes_on = refl

-- no two updates take the same message: after the first one nothing else may begin at 0
pub one_update_a_message : is_free 0 9 (messages once_added.memory 0) ≡ false
one_update_a_message = refl

pub updates_are_chosen : choices once_added 1 (Update 0 Rlx (Add (Def (pos 1)))) ≡ Take 1048576 2097152 ∷ []
updates_are_chosen = refl
