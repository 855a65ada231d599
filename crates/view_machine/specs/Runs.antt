-- Runs of a program, as journals: whether an entry can be made (`IsEntry`), and what it leaves
-- (`after_entry`).
use Rattle.std.specs.Prelude.{◌≡◌, ℕ, zero, suc, List, [], ◌∷◌, Bool, true, false}
use Rattle.values_undef.specs.Access.{choice_of_event}
pub use Rattle.values_undef.specs.Access.{is_spend}
use Rattle.values_undef.specs.declared.access.Choice.TheVariants.{Plain}
use Rattle.values_undef.specs.declared.access.Event.{Event}
use Rattle.values_undef.specs.declared.journal.Entry.{Entry}
use Rattle.il_syntax.specs.declared.program.Program.{Program}
use Rattle.thread_core.specs.declared.next.Next.TheVariants as next
use Rattle.view_machine.specs.declared.stepped.Stepped.TheVariants as stepped
use Rattle.view_machine.specs.State.{State, next_in, IsStep, after_step, IsSpendable, after_spend, initial_state}

-- the state after this many silent steps of a thread
abbrev pub after_silent : Program → ℕ → ℕ → State → State
after_silent p i zero s = s
after_silent p i (suc n) s = after_silent p i n (after_step p s i Plain).state

-- the thread has this many silent steps
abbrev pub AreSilent : Program → ℕ → ℕ → State → Type 0
AreSilent p i zero s = Unit {0}
AreSilent p i (suc n) s = IsStep s i Plain × (next_in s i ≡ next.Silent) × AreSilent p i n (after_step p s i Plain).state

-- the thread makes an access that has this event
pub record MakesAccess (p : Program) (s : State) (i : ℕ) (e : Event) : Type 0 where
  pub step : IsStep s i (choice_of_event e)
  pub event : (after_step p s i (choice_of_event e)).done ≡ stepped.Did e

-- the event of an entry: the end of a thread whose budget is used up, or an access
abbrev pub MakesEventBy : Program → State → ℕ → Event → Bool → Type 0
MakesEventBy p s i e true = IsSpendable s i
MakesEventBy p s i e false = MakesAccess p s i e

abbrev pub MakesEvent : Program → State → ℕ → Event → Type 0
MakesEvent p s i e = MakesEventBy p s i e (is_spend e)

abbrev pub after_event_by : Program → State → ℕ → Event → Bool → State
after_event_by p s i e true = after_spend s i
after_event_by p s i e false = (after_step p s i (choice_of_event e)).state

abbrev pub after_event : Program → State → ℕ → Event → State
after_event p s i e = after_event_by p s i e (is_spend e)

-- an entry: silent steps of its thread, and then the event
pub record IsEntry (p : Program) (s : State) (entry : Entry) : Type 0 where
  pub silent : AreSilent p entry.thread entry.silent s
  pub event : MakesEvent p (after_silent p entry.thread entry.silent s) entry.thread entry.event

abbrev pub after_entry : Program → State → Entry → State
after_entry p s entry = after_event p (after_silent p entry.thread entry.silent s) entry.thread entry.event

-- the entries follow one another from a state on
abbrev pub IsRunFrom : Program → State → List Entry → Type 0
IsRunFrom p s [] = Unit {0}
IsRunFrom p s (entry ∷ more) = IsEntry p s entry × IsRunFrom p (after_entry p s entry) more

-- the state after them
abbrev pub state_after : Program → State → List Entry → State
state_after p s [] = s
state_after p s (entry ∷ more) = state_after p (after_entry p s entry) more

-- the journal is a run of the program
abbrev pub IsJournalRun : Program → List Entry → Type 0
IsJournalRun p entries = IsRunFrom p (initial_state p) entries

-- the journal is a run that leads to the state
pub record IsRunTo (p : Program) (entries : List Entry) (s : State) : Type 0 where
  pub run : IsJournalRun p entries
  pub state : state_after p (initial_state p) entries ≡ s
