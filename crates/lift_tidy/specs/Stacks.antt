-- Threads of a tidied program beside those of its source, and what the two do next.
use Rattle.std.specs.Prelude.{◌≡◌, ℕ, Bool, true, false, Some}
use Rattle.std.specs.List.{AllZip}
use Rattle.values_undef.specs.declared.value.Val.{Val}
use Rattle.values_undef.specs.declared.access.Cause.{Cause}
use Rattle.values_undef.specs.declared.access.Access.{Access}
use Rattle.values_undef.specs.declared.access.Access.TheVariants as access
use Rattle.values_undef.specs.declared.access.Event.{Event}
use Rattle.values_undef.specs.declared.access.Event.TheVariants as event
use Rattle.il_syntax.specs.declared.program.Program.{Program}
use Rattle.thread_core.specs.declared.next.Next.TheVariants as next
use Rattle.thread_core.specs.Asking.{ends_by}
use Rattle.thread_core.specs.Frames.{Stack, next_of, advanced, resumed, given_by}
use Rattle.lift_tidy.specs.Frames.{FramesTidied}

pub record StacksTidied (source target : Program) (t s : Stack) : Type 0 where
  pub top : FramesTidied source target t.top s.top
  pub callers : AllZip (FramesTidied source target) t.callers s.callers

-- the access reads a value
abbrev pub reads_value : Access → Bool
reads_value (access.NaRead x) = true
reads_value (access.NaWrite x v) = false
reads_value (access.Read y order) = true
reads_value (access.Write y order v) = false
reads_value (access.Update y order kind) = true
reads_value (access.Fence order) = false
reads_value (access.Print v) = false
reads_value (access.Fail cause) = false
reads_value access.Finish = false
reads_value access.Spend = false

-- the event gives a value where the access reads one
abbrev pub GivesWhatIsRead : Access → Event → Type 0
GivesWhatIsRead a e = reads_value a ≡ true → (v : Val) × (given_by e ≡ Some v)

-- Both are silent, both make one access, fail for one cause or come to their end, or the target skips what the
-- source still does: by a read of a non-atomic location, or to fail.
pub data TidiedGoOn (source target : Program) (t s : Stack) : Type 0 where
  both_silent : next_of t ≡ next.Silent → next_of s ≡ next.Silent → StacksTidied source target (advanced target t) (advanced source s) → TidiedGoOn source target t s
  both_finish : next_of t ≡ next.Access access.Finish → next_of s ≡ next.Access access.Finish → TidiedGoOn source target t s
  both_ask : (a : Access) → next_of t ≡ next.Access a → next_of s ≡ next.Access a → ends_by a ≡ false → ((e : Event) → GivesWhatIsRead a e → StacksTidied source target (resumed t e) (resumed s e)) → TidiedGoOn source target t s
  both_fail : (cause : Cause) → next_of t ≡ next.Access (access.Fail cause) → next_of s ≡ next.Access (access.Fail cause) → TidiedGoOn source target t s
  source_reads : (x : ℕ) → next_of t ≡ next.Silent → next_of s ≡ next.Access (access.NaRead x) → ((v : Val) → StacksTidied source target (advanced target t) (resumed s (event.NaRead x v))) → TidiedGoOn source target t s
  source_fails : (cause : Cause) → next_of t ≡ next.Silent → next_of s ≡ next.Access (access.Fail cause) → TidiedGoOn source target t s
