-- A run told with other timestamps of one location.
use Rattle.std.specs.Prelude.{ℕ, ◌<◌, List, length, map}
use Rattle.values_undef.specs.declared.journal.Entry.{Entry}
use Rattle.il_syntax.specs.declared.program.Program.{Program}
use Rattle.message_memory.specs.Memory.{view_index}
use Rattle.thread_core.specs.Programs.{IsProperProgram}
use Rattle.view_machine.specs.State.{State}
use Rattle.view_machine.specs.Runs.{IsRunTo}
use Rattle.memory_likeness.specs.Moved.{IsRisingMap, moved, moved_view, moved_event}

abbrev pub moved_entry : ℕ → (ℕ → ℕ) → Entry → Entry
moved_entry y g e = record { thread = e.thread; silent = e.silent; event = moved_event y g e.event }

abbrev pub moved_state : ℕ → (ℕ → ℕ) → State → State
moved_state y g s = record { locals = s.locals; views = map (moved_view (view_index s.memory y) g) s.views; ended = s.ended; memory = moved s.memory y g }

-- it is a run
abbrev pub RunsAreMoved : Type 0
RunsAreMoved = (p : Program) (entries : List Entry) (s : State) (y : ℕ) (g : ℕ → ℕ) → IsProperProgram p → IsRisingMap g → y < length p.atomic → IsRunTo p entries s
    → IsRunTo p (map (moved_entry y g) entries) (moved_state y g s)
