-- A journal of another program, played on this one: each silent step is answered by a step, each event by one
-- that it stands below, and where a step of this program fails the play ends.
--
-- What is to hold of the state after is an argument, so that one definition serves the call's condition and
-- what is shown of each step of two programs.
use Rattle.std.specs.Prelude.{◌≡◌, ℕ, zero, suc, Bool, true, false, List, [], ◌∷◌, ◌⊎◌}
use Rattle.std.specs.Option.{option_map_or}
use Rattle.values_undef.specs.Access.{choice_of_event, is_failure}
use Rattle.values_undef.specs.declared.access.Choice.TheVariants.{Plain}
use Rattle.values_undef.specs.declared.access.Event.{Event}
use Rattle.values_undef.specs.declared.access.Event.TheVariants.{NaRead, NaWrite, Read, Write, Update, Miss, Fence, Print, Fail, FailCompare, Finish, Spend}
use Rattle.values_undef.specs.declared.journal.Entry.{Entry}
use Rattle.il_syntax.specs.declared.program.Program.{Program}
use Rattle.il_syntax.specs.declared.statement.Stmt.TheOpen as made
use Rattle.il_syntax.specs.Statements.{Head}
use Rattle.il_paths.specs.Code.{first_head}
use Rattle.values_undef.specs.Matching.{IsEventBelow, is_traced, without_place}
use Rattle.view_machine.specs.declared.stepped.Stepped.{Stepped}
use Rattle.view_machine.specs.declared.stepped.Stepped.TheVariants as stepped
use Rattle.view_machine.specs.State.{State, StepTaken, local_in, IsStep, after_step, IsSpendable, after_spend}

-- a load of a non-atomic location
abbrev pub is_plain_load : Head → Bool
is_plain_load made.Skip = false
is_plain_load (made.Copy r a) = false
is_plain_load (made.Compute r op a b) = false
is_plain_load (made.Load r x) = true
is_plain_load (made.Store x a) = false
is_plain_load (made.AtomicLoad r order y) = false
is_plain_load (made.AtomicStore order y a) = false
is_plain_load (made.Update r order y kind) = false
is_plain_load (made.Fence order) = false
is_plain_load (made.Print a) = false
is_plain_load (made.If a _ _) = false
is_plain_load (made.While a _) = false
is_plain_load (made.Call r function args) = false

-- the thread's next statement is a non-atomic load
abbrev pub at_load : State → ℕ → Bool
at_load s i = option_map_or is_plain_load (first_head (local_in s i).top.continuation) false

-- what a step was: it failed
abbrev pub HasFailed : Stepped → Type 0
HasFailed stepped.Silent = ⊥
HasFailed (stepped.Did e) = is_failure e ≡ true

-- it was silent, or an access to a non-atomic location that did not fail
abbrev pub IsQuiet : Stepped → Type 0
IsQuiet stepped.Silent = Unit {0}
IsQuiet (stepped.Did e) = is_traced e ≡ false

-- it was an access whose event the given one stands below
abbrev pub HasDone : Event → Stepped → Type 0
HasDone e stepped.Silent = ⊥
HasDone e (stepped.Did f) = IsEventBelow e f

-- a step that fails, or that is of this kind and leads on
abbrev pub LeadsOn : (Stepped → Type 0) → StepTaken → (State → Type 0) → Type 0
LeadsOn kind taken more = HasFailed taken.done ⊎ (kind taken.done × more taken.state)

-- one silent step of the journal
pub record PlaysStep (p : Program) (i : ℕ) (s : State) (more : State → Type 0) : Type 0 where
  pub step : IsStep s i Plain
  pub leads : LeadsOn IsQuiet (after_step p s i Plain) more

-- its silent steps
abbrev pub PlaysSteps : Program → ℕ → ℕ → State → (State → Type 0) → Type 0
PlaysSteps p i zero s more = more s
PlaysSteps p i (suc n) s more = PlaysStep p i s (λ u. PlaysSteps p i n u more)

-- the thread has the event's own choice, and its event is one that stands above
pub record PlaysOwn (p : Program) (i : ℕ) (e : Event) (s : State) (more : State → Type 0) : Type 0 where
  pub step : IsStep s i (choice_of_event e)
  pub leads : LeadsOn (HasDone e) (after_step p s i (choice_of_event e)) more

-- the thread has not that choice, but it has the message alone, and fails: a compare-exchange that meets `Undef`
pub record PlaysFailing (p : Program) (i : ℕ) (e : Event) (s : State) : Type 0 where
  pub none : IsStep s i (choice_of_event e) → ⊥
  pub step : IsStep s i (without_place (choice_of_event e))
  pub fails : HasFailed (after_step p s i (without_place (choice_of_event e))).done

abbrev pub PlaysAccess : Program → ℕ → Event → State → (State → Type 0) → Type 0
PlaysAccess p i e s more = PlaysOwn p i e s more ⊎ PlaysFailing p i e s

-- the thread is at its end too. (It may not fail there: the end takes no step of a budget.)
pub record PlaysEnd (p : Program) (i : ℕ) (s : State) (more : State → Type 0) : Type 0 where
  pub step : IsStep s i Plain
  pub done : HasDone Finish (after_step p s i Plain).done
  pub leads : more (after_step p s i Plain).state

-- a load is made here too, or it is the other program's own
abbrev pub PlaysLoad : Program → Bool → ℕ → Event → State → (State → Type 0) → Bool → Type 0
PlaysLoad p news i e s more true = PlaysAccess p i e s more
PlaysLoad p news i e s more false = (news ≡ true) × more s

-- the event of an entry; `news` says whether the other program may have loads of its own
abbrev pub PlaysEvent : Program → Bool → ℕ → Event → State → (State → Type 0) → Type 0
PlaysEvent p news i (NaRead x v) s more = PlaysLoad p news i (NaRead x v) s more (at_load s i)
PlaysEvent p news i (NaWrite x v version) s more = PlaysAccess p i (NaWrite x v version) s more
PlaysEvent p news i (Read y order v to) s more = PlaysAccess p i (Read y order v to) s more
PlaysEvent p news i (Write y order v from to) s more = PlaysAccess p i (Write y order v from to) s more
PlaysEvent p news i (Update y order old new read to) s more = PlaysAccess p i (Update y order old new read to) s more
PlaysEvent p news i (Miss y order old read) s more = PlaysAccess p i (Miss y order old read) s more
PlaysEvent p news i (Fence order) s more = PlaysAccess p i (Fence order) s more
PlaysEvent p news i (Print v) s more = PlaysAccess p i (Print v) s more
PlaysEvent p news i (Fail cause) s more = PlaysAccess p i (Fail cause) s more
PlaysEvent p news i (FailCompare y read) s more = PlaysAccess p i (FailCompare y read) s more
PlaysEvent p news i Finish s more = PlaysEnd p i s more
PlaysEvent p news i Spend s more = IsSpendable s i × more (after_spend s i)

-- the journal can be played from the state on
abbrev pub IsPlayable : Program → Bool → State → List Entry → Type 0
IsPlayable p news s [] = Unit {0}
IsPlayable p news s (entry ∷ rest) =
    PlaysSteps p entry.thread entry.silent s (λ u. PlaysEvent p news entry.thread entry.event u (λ w. IsPlayable p news w rest))
