-- The choices among which a thread's next access is made.
use Rattle.std.specs.Prelude.{ℕ, List, []}
use Rattle.values_undef.specs.declared.access.Choice.{Choice}
use Rattle.message_memory.specs.Candidates.{candidates}
use Rattle.thread_core.specs.declared.next.Next.{Next}
use Rattle.thread_core.specs.declared.next.Next.TheVariants as next
use Rattle.view_machine.specs.State.{State, view_in, next_in}

-- the choices that a thread draws from for what comes next: none for a silent step
abbrev pub candidates_by : State → ℕ → Next → List Choice
candidates_by s i next.Silent = []
candidates_by s i (next.Access a) = candidates s.memory (view_in s i) a

abbrev pub candidates_in : State → ℕ → List Choice
candidates_in s i = candidates_by s i (next_in s i)
