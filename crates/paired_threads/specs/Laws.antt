-- What holds of threads side by side.
use Rattle.std.specs.Prelude.{◌≡◌, ◌⊎◌, ℕ, List, Some, None}
use Rattle.values_undef.specs.declared.value.Val.{Val}
use Rattle.il_syntax.specs.declared.program.Program.{Program}
use Rattle.il_syntax.specs.Statements.{Head}
use Rattle.il_paths.specs.Code.{End, first_head}
use Rattle.thread_core.specs.declared.next.Next.TheVariants as next
use Rattle.thread_core.specs.Programs.{IsProperHead}
use Rattle.thread_core.specs.Frames.{Stack, next_at, next_of, advanced}
use Rattle.paired_threads.specs.Values.{RegistersBelow}
use Rattle.paired_threads.specs.Wants.{IsNextBelow}
use Rattle.paired_threads.specs.Stacks.{StacksPaired, StacksGoOn, AllPaired}

-- at one statement, at which the source names only its own registers, it wants what the target wants, or fails
abbrev pub NextIsBelow : Type 0
NextIsBelow = (p : Program) (old depth : ℕ) (t s : List Val) (h : Head) → RegistersBelow old t s → IsProperHead p old h → IsNextBelow (next_at t depth h) (next_at s depth h)

-- both threads are at one statement, or both at the end of a call; a statement of the target's own, a turned load
-- and a removed store aside
abbrev pub AreAtOne : Stack → Stack → Type 0
AreAtOne t s = first_head t.top.continuation ≡ first_head s.top.continuation

-- threads that are at one statement both go on silently where the source does, and are side by side again
abbrev pub ThreadsGoOn : Type 0
ThreadsGoOn = (p q : Program) (t s : Stack) → AllPaired p q → (f : StacksPaired p q t s) → AreAtOne t s → next_of s ≡ next.Silent → StacksGoOn f (advanced q t) (advanced p s)
