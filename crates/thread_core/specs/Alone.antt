-- A thread alone: its silent steps, and what it is after the event of its entry. None of it needs a memory.
use Rattle.std.specs.Prelude.{◌≡◌, ℕ, zero, suc, Bool, ◌||◌, ◌&&◌, not, Option, Some, None, if◌then◌else◌}
use Rattle.values_undef.specs.Access.{is_failure, ends_thread}
use Rattle.values_undef.specs.declared.access.Access.{Access}
use Rattle.values_undef.specs.declared.access.Event.{Event}
use Rattle.il_syntax.specs.declared.program.Program.{Program}
use Rattle.thread_core.specs.declared.next.Next.{Next}
use Rattle.thread_core.specs.declared.next.Next.TheVariants as next
use Rattle.thread_core.specs.Asking.{ends_by}
use Rattle.thread_core.specs.Frames.{Stack, next_of, advanced, resumed}

-- the thread after this many silent steps
abbrev pub local_after_silent : Program → ℕ → Stack → Stack
local_after_silent p zero l = l
local_after_silent p (suc n) l = local_after_silent p n (advanced p l)

-- the thread has this many silent steps
abbrev pub HasSilent : Program → ℕ → Stack → Type 0
HasSilent p zero l = Unit {0}
HasSilent p (suc n) l = (next_of l ≡ next.Silent) × HasSilent p n (advanced p l)

-- a thread does nothing more after this event
abbrev pub is_last : Event → Bool
is_last e = is_failure e || ends_thread e

-- the thread after the event of its entry; it stays where it failed, or where it has ended
abbrev pub local_after_event : Stack → Event → Stack
local_after_event l e = if is_last e then l else resumed l e

-- What comes next under a budget of steps: the access of the entry of a thread that stands at one or has used up
-- its budget. It is what the code asks for; there is none where the budget is used up and the thread isn't at its
-- end.
abbrev pub within : Bool → Next → Option Access
within spent next.Silent = None
within spent (next.Access a) = if spent && not (ends_by a) then None else Some a
