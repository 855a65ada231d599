-- What is shown of a step of a tidied program beside its source, and of its runs.
use Rattle.std.specs.Prelude.{◌≡◌, ℕ, false, List}
use Rattle.values_undef.specs.declared.access.Event.{Event}
use Rattle.values_undef.specs.declared.access.Choice.TheVariants.{Plain}
use Rattle.values_undef.specs.declared.journal.Entry.{Entry}
use Rattle.il_syntax.specs.declared.program.Program.{Program}
use Rattle.thread_core.specs.declared.next.Next.TheVariants as next
use Rattle.thread_core.specs.Steps.{IsProperStack}
use Rattle.thread_core.specs.Frames.{Stack}
use Rattle.view_machine.specs.State.{State, next_in, IsStep, after_step, initial_state}
use Rattle.view_machine.specs.Runs.{MakesEvent, after_event, IsJournalRun}
use Rattle.refinement.specs.Playing.{PlaysStep, PlaysEvent, IsPlayable}
use Rattle.lift_tidy.specs.Functions.{AllTidied}
use Rattle.lift_tidy.specs.Stacks.{StacksTidied, TidiedGoOn}
use Rattle.lift_tidy.specs.States.{AreTidied, AreStatesTidied}

-- threads side by side go on side by side
abbrev pub TidiedThreadsGoOn : Type 0
TidiedThreadsGoOn = (source target : Program) (t s : Stack) → AllTidied source target → StacksTidied source target t s → IsProperStack source s → TidiedGoOn source target t s

-- a silent step
abbrev pub TidiedSilentStepsArePlayed : Type 0
TidiedSilentStepsArePlayed = (source target : Program) (t s : State) (i : ℕ) → AreTidied source target → AreStatesTidied source target t s → IsStep t i Plain → next_in t i ≡ next.Silent
    → PlaysStep source i s (AreStatesTidied source target (after_step target t i Plain).state)

-- the event of an entry, the end of a budget among them
abbrev pub TidiedEventsArePlayed : Type 0
TidiedEventsArePlayed = (source target : Program) (t s : State) (i : ℕ) (e : Event) → AreTidied source target → AreStatesTidied source target t s → MakesEvent target t i e
    → PlaysEvent source false i e s (AreStatesTidied source target (after_event target t i e))

-- the beginning
abbrev pub BeginningsAreTidied : Type 0
BeginningsAreTidied = (source target : Program) → AreTidied source target → AreStatesTidied source target (initial_state target) (initial_state source)

-- so each run of the target can be played on the source
abbrev pub TidiedRunsArePlayable : Type 0
TidiedRunsArePlayable = (source target : Program) (entries : List Entry) → AreTidied source target → IsJournalRun target entries → IsPlayable source false (initial_state source) entries
