-- The machine in which a thread has one view, as it was before there were fences. It stands here for one law
-- alone: a journal of a program without a fence is a run of this machine exactly where it is one of the
-- machine of today. What does not look into a view is that of today.
use Rattle.std.specs.Prelude.{◌≡◌, ◌↔◌, ℕ, zero, suc, ◌+◌, ◌<◌, Bool, true, false, IsTrue, List, [], ◌∷◌, length, map, replicate, slice_index_or, slice_set}
use Rattle.values_undef.specs.Access.{choice_of_event}
use Rattle.values_undef.specs.Journal.{is_finish}
use Rattle.values_undef.specs.declared.access.Choice.{Choice}
use Rattle.values_undef.specs.declared.access.Choice.TheVariants as choice
use Rattle.values_undef.specs.declared.access.Event.{Event}
use Rattle.values_undef.specs.declared.access.Access.TheVariants as access
use Rattle.values_undef.specs.declared.journal.Entry.{Entry}
use Rattle.il_syntax.specs.declared.program.Program.{Program}
use Rattle.il_syntax.specs.Fences.{has_no_fence}
use Rattle.message_memory.specs.Memory.{Memory, initial_memory}
use Rattle.message_memory.specs.OneView.{IsLegalWithOneView, one_view_result}
use Rattle.thread_core.specs.declared.next.Next.{Next}
use Rattle.thread_core.specs.declared.next.Next.TheVariants as next
use Rattle.thread_core.specs.Frames.{Stack, next_of, advanced}
use Rattle.view_machine.specs.declared.stepped.Stepped.{Stepped}
use Rattle.view_machine.specs.declared.stepped.Stepped.TheVariants as stepped
use Rattle.view_machine.specs.State.{idle, local_after_event, start_of, declared_values}
use Rattle.view_machine.specs.Runs.{is_spend, IsJournalRun}

-- a local and a view of each thread, which of them have ended, and one memory
pub record OneViewState : Type 0 where
  pub locals : List Stack
  pub views : List (List ℕ)
  pub ended : List Bool
  pub memory : Memory

abbrev pub one_local_in : OneViewState → ℕ → Stack
one_local_in s i = slice_index_or s.locals i idle

abbrev pub one_view_in : OneViewState → ℕ → List ℕ
one_view_in s i = slice_index_or s.views i []

abbrev pub one_next_in : OneViewState → ℕ → Next
one_next_in s i = next_of (one_local_in s i)

pub record IsRunningWithOneView (s : OneViewState) (i : ℕ) : Type 0 where
  pub there : i < length s.locals
  pub going : slice_index_or s.ended i true ≡ false
  pub running : s.memory.failed ≡ false

abbrev pub OneViewAllows : Memory → List ℕ → Choice → Next → Type 0
OneViewAllows m v c next.Silent = c ≡ choice.Plain
OneViewAllows m v c (next.Access a) = IsLegalWithOneView m v a c

pub record IsOneViewStep (s : OneViewState) (i : ℕ) (c : Choice) : Type 0 where
  pub able : IsRunningWithOneView s i
  pub allowed : OneViewAllows s.memory (one_view_in s i) c (one_next_in s i)

pub record OneViewStepTaken : Type 0 where
  pub state : OneViewState
  pub done : Stepped

abbrev pub one_step_by : Program → OneViewState → ℕ → Choice → Next → OneViewStepTaken
one_step_by p s i c next.Silent =
    record { state = record s { locals = slice_set s.locals i (advanced p (one_local_in s i)) }; done = stepped.Silent }
one_step_by p s i c (next.Access a) =
    let o = one_view_result s.memory (one_view_in s i) i a c in
    record {
      state = record {
        locals = slice_set s.locals i (local_after_event (one_local_in s i) o.event);
        views = slice_set s.views i o.view;
        ended = slice_set s.ended i (is_finish o.event);
        memory = o.memory;
      };
      done = stepped.Did o.event;
    }

abbrev pub after_one_step : Program → OneViewState → ℕ → Choice → OneViewStepTaken
after_one_step p s i c = one_step_by p s i c (one_next_in s i)

pub record IsSpendableWithOneView (s : OneViewState) (i : ℕ) : Type 0 where
  pub able : IsRunningWithOneView s i
  pub unfinished : one_next_in s i ≡ next.Access access.Finish → ⊥

abbrev pub after_one_spend : OneViewState → ℕ → OneViewState
after_one_spend s i = record s { ended = slice_set s.ended i true }

-- Runs.

abbrev pub after_one_silent : Program → ℕ → ℕ → OneViewState → OneViewState
after_one_silent p i zero s = s
after_one_silent p i (suc n) s = after_one_silent p i n (after_one_step p s i choice.Plain).state

abbrev pub AreSilentWithOneView : Program → ℕ → ℕ → OneViewState → Type 0
AreSilentWithOneView p i zero s = Unit {0}
AreSilentWithOneView p i (suc n) s = IsOneViewStep s i choice.Plain × (one_next_in s i ≡ next.Silent) × AreSilentWithOneView p i n (after_one_step p s i choice.Plain).state

pub record MakesAccessWithOneView (p : Program) (s : OneViewState) (i : ℕ) (e : Event) : Type 0 where
  pub step : IsOneViewStep s i (choice_of_event e)
  pub event : (after_one_step p s i (choice_of_event e)).done ≡ stepped.Did e

abbrev pub MakesEventWithOneView : Program → OneViewState → ℕ → Event → Bool → Type 0
MakesEventWithOneView p s i e true = IsSpendableWithOneView s i
MakesEventWithOneView p s i e false = MakesAccessWithOneView p s i e

abbrev pub after_one_event : Program → OneViewState → ℕ → Event → Bool → OneViewState
after_one_event p s i e true = after_one_spend s i
after_one_event p s i e false = (after_one_step p s i (choice_of_event e)).state

pub record IsOneViewEntry (p : Program) (s : OneViewState) (entry : Entry) : Type 0 where
  pub silent : AreSilentWithOneView p entry.thread entry.silent s
  pub event : MakesEventWithOneView p (after_one_silent p entry.thread entry.silent s) entry.thread entry.event (is_spend entry.event)

abbrev pub after_one_entry : Program → OneViewState → Entry → OneViewState
after_one_entry p s entry = after_one_event p (after_one_silent p entry.thread entry.silent s) entry.thread entry.event (is_spend entry.event)

abbrev pub IsOneViewRunFrom : Program → OneViewState → List Entry → Type 0
IsOneViewRunFrom p s [] = Unit {0}
IsOneViewRunFrom p s (entry ∷ more) = IsOneViewEntry p s entry × IsOneViewRunFrom p (after_one_entry p s entry) more

abbrev pub initial_one_view_state : Program → OneViewState
initial_one_view_state p = record {
  locals = map (start_of p) p.threads;
  views = replicate (length p.threads) (replicate (length p.na + length p.atomic) 0);
  ended = replicate (length p.threads) false;
  memory = initial_memory (declared_values p.na) (declared_values p.atomic);
}

-- the journal is a run of the machine whose threads have one view
abbrev pub IsOneViewRun : Program → List Entry → Type 0
IsOneViewRun p entries = IsOneViewRunFrom p (initial_one_view_state p) entries

-- The old-run law: without a fence it is the same to be a run of either machine.
abbrev pub OneViewRunsAreRuns : Type 0
OneViewRunsAreRuns = (p : Program) (entries : List Entry) → IsTrue (has_no_fence p) → IsOneViewRun p entries ↔ IsJournalRun p entries
