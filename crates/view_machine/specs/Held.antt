-- How the code keeps a state. Clauses cite it by `state_in` alone, and by the conditions of its calls.
use Rattle.std.specs.Prelude.{◌≡◌, ℕ, ◌<◌, ◌^◌, Bool, List, length, map}
use Rattle.std.specs.List.{AllByRecursion}
use Rattle.il_syntax.specs.declared.program.Program.{Program}
use Rattle.views.specs.ThreadView.{ThreadView}
use Rattle.message_memory.specs.Memory.{Memory}
use Rattle.message_memory.specs.History.{IsWellFormedState}
use Rattle.thread_core.specs.Steps.{Positions, stack_in, ArePositions}
use Rattle.view_machine.specs.State.{State}

-- what contracts see of a machine: each thread by its positions, and for how many accesses there is room
pub record Held : Type 0 where
  pub locals : List Positions
  pub views : List ThreadView
  pub ended : List Bool
  pub memory : Memory
  pub spare : ℕ

-- the state that it stands for, in a program
abbrev pub state_in : Program → Held → State
state_in p h = record { locals = map (stack_in p) h.locals; views = h.views; ended = h.ended; memory = h.memory }

-- each thread has a local, a view and a note whether it has ended; the memory is well-formed, and closed
-- for the views
pub record IsWhole (h : Held) : Type 0 where
  pub views : length h.views ≡ length h.locals
  pub ended : length h.ended ≡ length h.locals
  pub well_formed : IsWellFormedState (record { memory = h.memory; views = h.views })

-- the machine is one of the program's
pub record IsOf (p : Program) (h : Held) : Type 0 where
  pub positions : AllByRecursion (ArePositions p) h.locals
  pub threads : length h.locals ≡ length p.threads
  pub na : length h.memory.na ≡ length p.na
  pub atomic : length h.memory.atomic ≡ length p.atomic

-- there is a number for a further version of each location
abbrev pub HasRoom : Memory → Type 0
HasRoom m = AllByRecursion (λ location. location.version < 2 ^ 60) m.na
