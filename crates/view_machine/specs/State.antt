-- A state of the machine, and its steps: whether a thread has a step with a choice (`IsStep`), and what
-- the step leaves (`after_step`).
use Rattle.std.specs.Prelude.{◌≡◌, ℕ, ◌+◌, ◌<◌, Bool, true, false, List, [], length, map, replicate, slice_index_or, slice_set}
use Rattle.values_undef.specs.Journal.{is_finish}
use Rattle.values_undef.specs.declared.access.Choice.{Choice}
use Rattle.values_undef.specs.declared.access.Choice.TheVariants as choice
use Rattle.values_undef.specs.declared.access.Event.{Event}
use Rattle.values_undef.specs.declared.access.Access.TheVariants as access
use Rattle.il_syntax.specs.declared.program.Program.{Program}
use Rattle.il_paths.specs.Code.{End}
use Rattle.views.specs.ThreadView.{ThreadView, no_view, zero_view}
use Rattle.message_memory.specs.Memory.{Memory, initial_memory}
use Rattle.message_memory.specs.Step.{IsLegal, step_result}
use Rattle.thread_core.specs.declared.next.Next.{Next}
use Rattle.thread_core.specs.declared.next.Next.TheVariants as next
use Rattle.thread_core.specs.Frames.{Stack, next_of, advanced}
pub use Rattle.thread_core.specs.Frames.{start_of}
pub use Rattle.thread_core.specs.Alone.{local_after_event}
use Rattle.view_machine.specs.declared.stepped.Stepped.{Stepped}
use Rattle.view_machine.specs.declared.stepped.Stepped.TheVariants as stepped
pub use Rattle.il_syntax.specs.Given.{declared_values}

-- a local and a view of each thread, which of them have ended, and one memory
pub record State : Type 0 where
  pub locals : List Stack
  pub views : List ThreadView
  pub ended : List Bool
  pub memory : Memory

-- a thread with nothing to do, which stands for one that isn't there
abbrev pub idle : Stack
idle = record { top = record { function = 0; registers = []; continuation = End }; callers = [] }

abbrev pub local_in : State → ℕ → Stack
local_in s i = slice_index_or s.locals i idle

-- the state with another local of a thread
abbrev pub with_local : State → ℕ → Stack → State
with_local s i l = record s { locals = slice_set s.locals i l }

abbrev pub view_in : State → ℕ → ThreadView
view_in s i = slice_index_or s.views i no_view

abbrev pub has_ended : State → ℕ → Bool
has_ended s i = slice_index_or s.ended i true

-- what comes next in a thread
abbrev pub next_in : State → ℕ → Next
next_in s i = next_of (local_in s i)

-- Steps.

-- the thread is there and has not ended, and the memory has not failed
pub record IsRunning (s : State) (i : ℕ) : Type 0 where
  pub there : i < length s.locals
  pub going : has_ended s i ≡ false
  pub running : s.memory.failed ≡ false

-- a silent step has the plain choice alone, an access has those of the memory
abbrev pub Allows : Memory → ThreadView → Choice → Next → Type 0
Allows m v c next.Silent = c ≡ choice.Plain
Allows m v c (next.Access a) = IsLegal m v a c

-- the thread has a step with this choice
pub record IsStep (s : State) (i : ℕ) (c : Choice) : Type 0 where
  pub able : IsRunning s i
  pub allowed : Allows s.memory (view_in s i) c (next_in s i)

-- what a step leaves, and what it was
pub record StepTaken : Type 0 where
  pub state : State
  pub done : Stepped

abbrev pub step_by : Program → State → ℕ → Choice → Next → StepTaken
step_by p s i c next.Silent =
    record { state = record s { locals = slice_set s.locals i (advanced p (local_in s i)) }; done = stepped.Silent }
step_by p s i c (next.Access a) =
    let o = step_result s.memory (view_in s i) i a c in
    record {
      state = record {
        locals = slice_set s.locals i (local_after_event (local_in s i) o.event);
        views = slice_set s.views i o.view;
        ended = slice_set s.ended i (is_finish o.event);
        memory = o.memory;
      };
      done = stepped.Did o.event;
    }

-- the step of a thread with a choice
abbrev pub after_step : Program → State → ℕ → Choice → StepTaken
after_step p s i c = step_by p s i c (next_in s i)

-- The end of a thread whose budget of steps is used up.

-- the thread may end so: it is not at its end
pub record IsSpendable (s : State) (i : ℕ) : Type 0 where
  pub able : IsRunning s i
  pub unfinished : next_in s i ≡ next.Access access.Finish → ⊥

-- the thread has ended, all else stays
abbrev pub after_spend : State → ℕ → State
after_spend s i = record s { ended = slice_set s.ended i true }

-- The beginning.

-- where a program begins
abbrev pub initial_state : Program → State
initial_state p = record {
  locals = map (start_of p) p.threads;
  views = replicate (length p.threads) (zero_view (length p.na + length p.atomic));
  ended = replicate (length p.threads) false;
  memory = initial_memory (declared_values p.na) (declared_values p.atomic);
}
