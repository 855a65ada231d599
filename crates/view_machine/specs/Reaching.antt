-- One step of a state of a run, and where a run begins.
use Rattle.std.specs.Prelude.{◌≡◌, ℕ}
use Rattle.values_undef.specs.declared.access.Access.{Access}
use Rattle.values_undef.specs.declared.access.Choice.{Choice}
use Rattle.values_undef.specs.declared.access.Event.{Event}
use Rattle.il_syntax.specs.declared.program.Program.{Program}
use Rattle.thread_core.specs.Programs.{IsProperProgram}
use Rattle.view_machine.specs.State.{State, IsStep, after_step, initial_state}
use Rattle.view_machine.specs.Runs.{MakesEvent, after_event}
use Rattle.view_machine.specs.Laws.{IsReached}

-- a program begins in a state of a run
abbrev pub InitialStatesAreReached : Type 0
InitialStatesAreReached = (p : Program) → IsProperProgram p → IsReached p (initial_state p)

-- a step, and an event, lead from a state of a run to one
abbrev pub StepsKeepReached : Type 0
StepsKeepReached = (p : Program) (s : State) (i : ℕ) (c : Choice) → IsProperProgram p → IsReached p s → IsStep s i c → IsReached p (after_step p s i c).state

abbrev pub EventsKeepReached : Type 0
EventsKeepReached = (p : Program) (s : State) (i : ℕ) (e : Event) → IsProperProgram p → IsReached p s → MakesEvent p s i e → IsReached p (after_event p s i e)
