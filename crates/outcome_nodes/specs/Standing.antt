-- The node that stands for the state in which a run ends.
use Rattle.std.specs.Prelude.{◌≡◌, ℕ, zero, suc, ◌-◌, true, false, List, [], ◌∷◌, ◌++◌, length, map}
use Rattle.std.specs.List.{range_with_len}
use Rattle.values_undef.specs.Journal.{used_steps}
use Rattle.values_undef.specs.declared.access.Access.{Access}
use Rattle.values_undef.specs.declared.access.Access.TheVariants as access
use Rattle.values_undef.specs.declared.access.Event.{Event}
use Rattle.values_undef.specs.declared.access.Event.TheVariants as event
use Rattle.values_undef.specs.declared.journal.Entry.{Entry}
use Rattle.il_syntax.specs.declared.program.Program.{Program}
use Rattle.thread_core.specs.declared.next.Next.{Next}
use Rattle.thread_core.specs.declared.next.Next.TheVariants as next
use Rattle.thread_core.specs.Frames.{next_of}
use Rattle.view_machine.specs.State.{State, local_in, initial_state}
use Rattle.view_machine.specs.Runs.{state_after}
use Rattle.outcome_nodes.specs.Nodes.{Node, silent_steps, settled, settled_use, result_at, after_move, printed_by, told_by}
use Rattle.outcome_nodes.specs.Reached.{IsReachable, IsRunOf, IsFailedRun}

abbrev pub node_at : Program → ℕ → List Entry → State → Node
node_at p steps entries s = record {
  locals = map (λ j. settled p steps (used_steps entries j) (local_in s j)) (range_with_len 0 (length p.threads));
  used = map (λ j. settled_use p steps (used_steps entries j) (local_in s j)) (range_with_len 0 (length p.threads));
  views = s.views;
  printed = map (printed_by entries) (range_with_len 0 (length p.threads));
  told = map (told_by entries) (range_with_len 0 (length p.threads));
  memory = record s.memory { outputs = [] };
}

abbrev pub node_of : Program → ℕ → List Entry → Node
node_of p steps entries = node_at p steps entries (state_after p (initial_state p) entries)

-- the entries are a run to a state for which a node stands that moves lead to
pub record IsNodeRun (p : Program) (steps : ℕ) (entries : List Entry) : Type 0 where
  pub reached : IsReachable p steps (node_of p steps entries)
  pub stands : IsRunOf p steps entries (state_after p (initial_state p) entries) (node_of p steps entries)

-- a run has one node that stands for its state
abbrev pub RunsHaveOneNode : Type 0
RunsHaveOneNode = (p : Program) (steps : ℕ) (entries : List Entry) (s : State) (n : Node) → IsRunOf p steps entries s n → n ≡ node_of p steps entries

-- ---- a move

-- the entries are the run that goes on by the move, and the node of its end is the one after the move
pub record GoesOnBy (p : Program) (steps : ℕ) (n : Node) (i : ℕ) (a : Access) (b : ℕ) (entries : List Entry) : Type 0 where
  pub run : IsNodeRun p steps entries
  pub node : node_of p steps entries ≡ after_move p steps n i a b
  pub fine : (result_at n i a b).memory.failed ≡ false

-- or the run that fails by it
pub record FailsBy (p : Program) (steps : ℕ) (n : Node) (i : ℕ) (a : Access) (b : ℕ) (entries : List Entry) : Type 0 where
  pub run : IsFailedRun p steps n entries
  pub fails : (result_at n i a b).memory.failed ≡ true

-- ---- last entries

-- how a thread ends that stands at this
abbrev pub last_event : Next → Event
last_event (next.Access access.Finish) = event.Finish
last_event _ = event.Spend

-- the entry with which thread i ends where the entries end in s: it makes its silent steps first
abbrev pub last_entry : Program → ℕ → List Entry → State → ℕ → Entry
last_entry p steps entries s i = record {
  thread = i;
  silent = silent_steps p (steps - used_steps entries i) (local_in s i);
  event = last_event (next_of (settled p steps (used_steps entries i) (local_in s i)));
}

-- the entries, and then the last ones of the threads below m
abbrev pub with_last_entries : Program → ℕ → List Entry → State → ℕ → List Entry
with_last_entries p steps entries s zero = entries
with_last_entries p steps entries s (suc m) = with_last_entries p steps entries s m ++ last_entry p steps entries s m ∷ []
