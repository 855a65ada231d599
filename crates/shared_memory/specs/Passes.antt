-- What contracts see of a shared memory and of a pass, and what an access says.
use Rattle.std.specs.Prelude.{◌≡◌, ℕ, zero, suc, ◌+◌, ◌<◌, List, [], ◌∷◌, ◌++◌, length, take, drop, Some, slice_get, slice_set, slice_index_or}
use mathlib.Core.List.{IsPrefix}
use Rattle.atomic_table.specs.Seated.{TableId}
use Rattle.values_undef.specs.Access.{choice_of_event}
use Rattle.values_undef.specs.declared.access.Access.{Access}
use Rattle.values_undef.specs.declared.access.Event.{Event}
use Rattle.values_undef.specs.declared.journal.Entry.{Entry}
use Rattle.views.specs.ThreadView.{ThreadView, zero_view}
use Rattle.message_memory.specs.declared.history.Call.{Call}
use Rattle.message_memory.specs.History.{calls_by, entries_of}
use Rattle.chooser.specs.Chosen.{IsChosen, chooser_after}
use Rattle.shared_memory.specs.declared.params.SharedParams.{SharedParams}
use Rattle.shared_memory.specs.declared.slot.Answer.{Answer}
use Rattle.shared_memory.specs.declared.slot.Answer.TheVariants.{Done, Stopped}
use Rattle.shared_memory.specs.Slot.{IsHistory, memory_with, view_with, call_of}
use Rattle.shared_memory.specs.Answers.{FailsAt}
use Rattle.shared_memory.specs.Turns.{Seated, seen_of, carried_calls, at_rest, in_turn, AllBelow}

-- a shared memory: which table it is, and what it was made with
pub record SharedValue : Type 0 where
  pub id : TableId
  pub params : SharedParams

-- a pass: its memory, its thread, that thread's view, and the calls that it has seen
pub record PassValue : Type 0 where
  pub id : TableId
  pub params : SharedParams
  pub thread : ℕ
  pub view : ThreadView
  pub seen : List Call

abbrev pub pass_value : TableId → Seated → ℕ → ThreadView → PassValue
pass_value id me thread view = record { id = id; params = me.0.params; thread = thread; view = view; seen = seen_of me.0 }

-- a seat between two calls
abbrev pub IsAtRest : Seated → ℕ → Type 0
IsAtRest m thread = m ≡ at_rest m.0.params thread (seen_of m.0)

-- a seat that has the turn and the slot, with the calls that it knows
abbrev pub IsInTurn : Seated → ℕ → Type 0
IsInTurn m thread = m ≡ in_turn m.0.params thread (seen_of m.0) (seen_of m.0)

-- the same, with one call more in the slot
pub record IsInTurnWith (m : Seated) (thread : ℕ) (c : Call) : Type 0 where
  pub seat : m ≡ in_turn m.0.params thread (seen_of m.0) (carried_calls m.1)
  pub calls : carried_calls m.1 ≡ seen_of m.0 ++ c ∷ []
  pub own : c.thread ≡ thread
  pub share : length (calls_by thread (seen_of m.0)) < m.0.params.share

-- a seat after its call
abbrev pub IsAnswered : Seated → ℕ → Answer → Type 0
IsAnswered m thread (Done event) = (c : Call) × IsInTurnWith m thread c
IsAnswered m thread (Stopped place) = IsInTurn m thread × (carried_calls m.1 ≡ seen_of m.0)

pub record IsPass (me : Seated) (thread : ℕ) (view : ThreadView) : Type 0 where
  pub rest : IsAtRest me thread
  pub named : thread < 16
  pub view_is : view ≡ view_with me.0.params (seen_of me.0) thread

-- the pass is one of this memory
pub record IsPassOf (memory : SharedValue) (pass : PassValue) : Type 0 where
  pub id : pass.id ≡ memory.id
  pub params : pass.params ≡ memory.params

-- the pass's own calls
abbrev pub own_calls : PassValue → List Call
own_calls pass = calls_by pass.thread pass.seen

-- A history was seen that begins with what the pass had seen, and ends with the failure at this place. The pass
-- made no call, and its view stays.
pub record AccessStopped (old new : PassValue) (place : ℕ) : Type 0 where
  pub seen : IsPrefix old.seen new.seen
  pub history : IsHistory old.params new.seen
  pub fails : FailsAt new.seen place
  pub own : own_calls new ≡ own_calls old
  pub view_is : new.view ≡ old.view

module _ {C : Type 0} (answer : C → ℕ → ℕ → ℕ) (next : C → ℕ → ℕ → C) where
  -- The call stands at the end of one history, which begins with all that the pass had seen, and in which the pass's
  -- own calls are those that it made. Its choice is the one that the chooser answers for the memory and the view
  -- before the call, and the chooser is the one after that.
  pub record AccessDone (old new : PassValue) (silent : ℕ) (a : Access) (chooser new_chooser : C) (event : Event) : Type 0 where
    pub before : List Call
    pub begins : IsPrefix old.seen before
    pub seen : new.seen ≡ before ++ call_of old.thread silent a event ∷ []
    pub history : IsHistory old.params new.seen
    pub own : own_calls new ≡ own_calls old ++ call_of old.thread silent a event ∷ []
    pub chosen : IsChosen answer (memory_with old.params before) (view_with old.params before old.thread) a chooser old.thread (choice_of_event event)
    pub chooser_is : new_chooser ≡ chooser_after next (memory_with old.params before) (view_with old.params before old.thread) a chooser old.thread
    pub view_is : new.view ≡ view_with old.params new.seen old.thread

  abbrev pub Accessed : PassValue → ℕ → Access → C → Answer → PassValue → C → Type 0
  Accessed old silent a chooser (Done event) new new_chooser = AccessDone old new silent a chooser new_chooser event
  Accessed old silent a chooser (Stopped place) new new_chooser = AccessStopped old new place × (new_chooser ≡ chooser)

-- the pass of a thread that has made no call
abbrev pub fresh_pass : SharedValue → ℕ → PassValue
fresh_pass memory thread = record {
  id = memory.id;
  params = memory.params;
  thread = thread;
  view = zero_view (length memory.params.na + length memory.params.atomic);
  seen = [];
}

-- so many of them, from this thread on
abbrev pub fresh_from : SharedValue → ℕ → ℕ → List PassValue
fresh_from memory first zero = []
fresh_from memory first (suc n) = fresh_pass memory first ∷ fresh_from memory (suc first) n

-- how many passes `make` gave, and those that are there
pub record PassesValue : Type 0 where
  pub made : ℕ
  pub list : List PassValue

-- the passes of one memory, one for each thread from the first on
abbrev pub IsRow : SharedValue → ℕ → List PassValue → Type 0
IsRow memory first [] = Unit {0}
IsRow memory first (p ∷ ps) = (IsPassOf memory p × (p.thread ≡ first)) × IsRow memory (suc first) ps

abbrev pub seen_by : PassValue → List Call
seen_by pass = pass.seen

-- the calls of the entries, each the next unused one of its thread's list
abbrev pub weave : List Entry → List (List Call) → List Call
weave [] lists = []
weave (e ∷ es) lists = take 1 (slice_index_or lists e.thread []) ++ weave es (slice_set lists e.thread (drop 1 (slice_index_or lists e.thread [])))

-- The passes' own calls, woven by the journal, are one history, whose entries the journal has. Each pass's list is
-- that of its thread, no call is over, and what a pass has seen begins the history.
pub record IsWholeHistory (params : SharedParams) (journal : List Entry) (passes : List PassValue) (history : List Call) : Type 0 where
  pub journal_is : entries_of history ≡ journal
  pub legal : IsHistory params history
  pub none_over : AllBelow (length passes) history
  pub own : (i : ℕ) (p : PassValue) → slice_get passes i ≡ Some p → own_calls p ≡ calls_by i history
  pub begins : (i : ℕ) (p : PassValue) → slice_get passes i ≡ Some p → IsPrefix p.seen history
