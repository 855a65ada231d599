-- What playing a journal has come to, and one step of it.
use Rattle.std.specs.Prelude.{◌≡◌, ◌⊎◌, ℕ, ◌+◌, ◌-◌, ◌<◌, ◌^◌, Bool, false, List, length, slice_index, slice_set}
use Rattle.values_undef.specs.Access.{is_failure}
use Rattle.values_undef.specs.Journal.{used_steps}
use Rattle.values_undef.specs.declared.access.Choice.{Choice}
use Rattle.values_undef.specs.declared.journal.Entry.{Entry}
use Rattle.il_syntax.specs.declared.program.Program.{Program}
use Rattle.view_machine.specs.declared.stepped.Stepped.{Stepped}
use Rattle.view_machine.specs.declared.stepped.Stepped.TheVariants as stepped
use Rattle.view_machine.specs.Held.{Held, state_in, IsOf}
use Rattle.view_machine.specs.State.{State, IsStep, after_step}
use Rattle.view_machine.specs.Runs.{IsJournalRun, IsRunTo}
use Rattle.refinement.specs.Refinement.{Refines, EndsInFailure}
use Rattle.refinement.specs.Books.{OpenBooks, ClosedBooks, recorded}
use Rattle.refinement.specs.Playing.{PlaysSteps, PlaysEvent, IsPlayable}
use Rattle.refinement.specs.Ahead.{IsAhead}

-- the machine, how many silent steps of each thread are not recorded yet, and the entries
pub record Played : Type 0 where
  pub machine : Held
  pub silent : List ℕ
  pub entries : List Entry

abbrev pub played : Held → List ℕ → List Entry → Played
played machine silent entries = record { machine = machine; silent = silent; entries = entries }

-- a silent step is counted, another is recorded
abbrev pub IsNoted : ℕ → Played → Played → Bool → Stepped → Type 0
IsNoted i old new failed stepped.Silent = (new.silent ≡ slice_set old.silent i (slice_index old.silent i + 1)) × (new.entries ≡ old.entries) × (failed ≡ false)
IsNoted i old new failed (stepped.Did e) = (new.silent ≡ slice_set old.silent i 0) × (new.entries ≡ recorded old.entries old.silent i e) × (failed ≡ is_failure e)

-- thread i makes a step with this choice
pub record IsMade (p : Program) (i : ℕ) (c : Choice) (old new : Played) (failed : Bool) : Type 0 where
  pub step : IsStep (state_in p old.machine) i c
  pub state : (after_step p (state_in p old.machine) i c).state ≡ state_in p new.machine
  pub noted : IsNoted i old new failed (after_step p (state_in p old.machine) i c).done
  pub program : IsOf p new.machine

-- nothing has changed but the room that there is
pub record IsSame (p : Program) (old new : Played) : Type 0 where
  pub state : state_in p new.machine ≡ state_in p old.machine
  pub silent : new.silent ≡ old.silent
  pub entries : new.entries ≡ old.entries
  pub program : IsOf p new.machine

-- there is no such step, and all is as before
pub record IsNoStep (p : Program) (i : ℕ) (c : Choice) (old new : Played) : Type 0 where
  pub none : IsStep (state_in p old.machine) i c → ⊥
  pub same : IsSame p old new

-- what holds at all times
pub record IsRecorded (p : Program) (w : Played) : Type 0 where
  pub state : State
  pub run : IsRunTo p w.entries state
  pub ahead : IsAhead p w.silent state (state_in p w.machine)
  pub threads : length w.silent ≡ length p.threads
  pub program : IsOf p w.machine

-- between two entries
pub record IsReady (p : Program) (news : Bool) (done rest : List Entry) (w : Played) : Type 0 where
  pub recorded : IsRecorded p w
  pub playable : IsPlayable p news (state_in p w.machine) rest
  pub books : ClosedBooks news done w.entries w.silent

-- within an entry, of whose silent steps k are made
pub record IsOpen (p : Program) (news : Bool) (done : List Entry) (entry : Entry) (rest : List Entry) (k : ℕ) (w : Played) : Type 0 where
  pub recorded : IsRecorded p w
  pub playable : PlaysSteps p entry.thread (entry.silent - k) (state_in p w.machine) (λ u. PlaysEvent p news entry.thread entry.event u (λ s. IsPlayable p news s rest))
  pub books : OpenBooks news entry.thread k done w.entries w.silent

-- a thread has failed, and the play is over
pub record IsOver (p : Program) (all : List Entry) (w : Played) : Type 0 where
  pub run : IsJournalRun p w.entries
  pub refines : Refines all w.entries
  pub fails : EndsInFailure w.entries

-- the threads of the journal have used few steps
abbrev pub AreFew : List Entry → Type 0
AreFew js = (i : ℕ) → used_steps js i < 2 ^ 40

-- what `play` promises
pub record IsPlayed (p : Program) (news : Bool) (all js : List Entry) : Type 0 where
  pub run : IsJournalRun p js
  pub refines : Refines all js
  pub exact : news ≡ false → EndsInFailure js ⊎ ((i : ℕ) → used_steps js i ≡ used_steps all i)
