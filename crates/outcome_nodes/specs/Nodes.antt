-- Nodes of the search for all outcomes. A node stands for all states of runs whose threads stand at the same places
-- and whose memories differ in the numbers of their timestamps alone. Each thread has made its silent steps up to its
-- next access, or to the end of its budget. No thread of it ends: one that has come to its end stands there. What a
-- thread has printed, and its events without their timestamps, are part of a node.
use Rattle.std.specs.Prelude.{◌≡◌, ℕ, ℤ, zero, suc, ◌+◌, ◌-◌, ◌<◌, ◌==◌, Bool, true, false, IsSome, List, [], ◌∷◌, ◌++◌, length, map, replicate, slice_index_or, slice_set, if◌then◌else◌}
use Rattle.values_undef.specs.Access.{leaves_choice}
use Rattle.values_undef.specs.declared.access.Access.{Access}
use Rattle.values_undef.specs.declared.access.Access.TheVariants as access
use Rattle.values_undef.specs.declared.access.Event.{Event}
use Rattle.values_undef.specs.declared.access.Event.TheVariants as event
use Rattle.values_undef.specs.declared.journal.Entry.{Entry}
use Rattle.il_syntax.specs.declared.program.Program.{Program}
use Rattle.views.specs.ThreadView.{ThreadView, no_view, zero_view}
use Rattle.message_memory.specs.Memory.{Memory, messages, message_at, initial_memory}
use Rattle.message_memory.specs.Step.{IsLegal, StepResult, step_result}
use Rattle.message_memory.specs.Candidates.{location_of}
use Rattle.thread_core.specs.declared.next.Next.{Next}
use Rattle.thread_core.specs.declared.next.Next.TheVariants as next
use Rattle.thread_core.specs.Frames.{Stack, next_of, advanced}
use Rattle.thread_core.specs.Alone.{local_after_silent, local_after_event}
use Rattle.view_machine.specs.State.{idle, start_of, declared_values}
use Rattle.memory_likeness.specs.Likeness.{without_stamps}
use Rattle.memory_likeness.specs.Answering.{made_room, view_with_room, choice_behind}

pub record Node : Type 0 where
  pub locals : List Stack
  pub used : List ℕ
  pub views : List ThreadView
  pub printed : List (List ℤ)
  pub told : List (List Event)
  pub memory : Memory

abbrev pub local_of : Node → ℕ → Stack
local_of n i = slice_index_or n.locals i idle

abbrev pub used_of : Node → ℕ → ℕ
used_of n i = slice_index_or n.used i 0

abbrev pub view_at : Node → ℕ → ThreadView
view_at n i = slice_index_or n.views i no_view

abbrev pub printed_of : Node → ℕ → List ℤ
printed_of n i = slice_index_or n.printed i []

abbrev pub told_of : Node → ℕ → List Event
told_of n i = slice_index_or n.told i []

-- ---- silent steps

abbrev pub is_silent : Next → Bool
is_silent next.Silent = true
is_silent (next.Access a) = false

-- how many silent steps a thread makes up to its next access, at most so many
abbrev pub silent_steps : Program → ℕ → Stack → ℕ
silent_steps p zero l = 0
silent_steps p (suc n) l = if is_silent (next_of l) then suc (silent_steps p n (advanced p l)) else 0

-- the thread after them, and its used steps
abbrev pub settled : Program → ℕ → ℕ → Stack → Stack
settled p steps used l = local_after_silent p (silent_steps p (steps - used) l) l

abbrev pub settled_use : Program → ℕ → ℕ → Stack → ℕ
settled_use p steps used l = used + silent_steps p (steps - used) l

-- ---- the first node

abbrev pub first_node : Program → ℕ → Node
first_node p steps = record {
  locals = map (λ start. settled p steps 0 (start_of p start)) p.threads;
  used = map (λ start. settled_use p steps 0 (start_of p start)) p.threads;
  views = replicate (length p.threads) (zero_view (length p.na + length p.atomic));
  printed = replicate (length p.threads) [];
  told = replicate (length p.threads) [];
  memory = initial_memory (declared_values p.na) (declared_values p.atomic);
}

-- ---- moves

-- what an event prints
abbrev pub prints : Event → List ℤ
prints (event.NaRead x v) = []
prints (event.NaWrite x v version) = []
prints (event.Read y order v to) = []
prints (event.Write y order v from to) = []
prints (event.Update y order old new read to) = []
prints (event.Miss y order old read) = []
prints (event.Fence order) = []
prints (event.Print v) = v ∷ []
prints (event.Fail cause) = []
prints (event.FailCompare y read) = []
prints event.Finish = []
prints event.Spend = []

-- thread i is to make this access, and has a step left for it
pub record Asks (steps : ℕ) (n : Node) (i : ℕ) (a : Access) : Type 0 where
  pub next : next_of (local_of n i) ≡ next.Access a
  pub unfinished : a ≡ access.Finish → ⊥
  pub left : used_of n i < steps

-- what comes of the access at the message that ends at b
abbrev pub result_at : Node → ℕ → Access → ℕ → StepResult
result_at n i a b = step_result (made_room n.memory a b) (view_with_room n.memory (view_at n i) a b) i a (choice_behind n.memory a b)

-- it may be made there
pub record IsMove (n : Node) (i : ℕ) (a : Access) (b : ℕ) : Type 0 where
  pub found : leaves_choice a ≡ true → IsSome (message_at b (messages n.memory (location_of a)))
  pub legal : IsLegal (made_room n.memory a b) (view_with_room n.memory (view_at n i) a b) a (choice_behind n.memory a b)

-- the node after it
abbrev pub after_move : Program → ℕ → Node → ℕ → Access → ℕ → Node
after_move p steps n i a b =
    let o = result_at n i a b in
    let l = local_after_event (local_of n i) o.event in
    record {
      locals = slice_set n.locals i (settled p steps (used_of n i + 1) l);
      used = slice_set n.used i (settled_use p steps (used_of n i + 1) l);
      views = slice_set (map (λ v. view_with_room n.memory v a b) n.views) i o.view;
      printed = slice_set n.printed i (printed_of n i ++ prints o.event);
      told = slice_set n.told i (told_of n i ++ without_stamps o.event ∷ []);
      memory = record o.memory { outputs = [] };
    }

-- the thread stands at its end, or its budget is used up
abbrev pub IsFinished : Node → ℕ → Type 0
IsFinished n i = next_of (local_of n i) ≡ next.Access access.Finish

pub record IsSpent (steps : ℕ) (n : Node) (i : ℕ) : Type 0 where
  pub used : used_of n i ≡ steps
  pub unfinished : IsFinished n i → ⊥

-- ---- outputs

-- what a thread prints in a journal, in order
abbrev pub printed_by : List Entry → ℕ → List ℤ
printed_by [] i = []
printed_by (e ∷ rest) i = (if e.thread == i then prints e.event else []) ++ printed_by rest i

-- the events of a thread in a journal, in order, without their timestamps
abbrev pub told_by : List Entry → ℕ → List Event
told_by [] i = []
told_by (e ∷ rest) i = (if e.thread == i then without_stamps e.event ∷ [] else []) ++ told_by rest i

-- a node has these outputs of a journal, thread by thread
abbrev pub HasPrinted : ℕ → Node → List Entry → Type 0
HasPrinted threads n entries = (i : ℕ) → i < threads → printed_of n i ≡ printed_by entries i
