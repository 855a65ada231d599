-- Each node that moves lead to stands for a state of a run.
use Rattle.std.specs.Prelude.{◌≡◌, ◌⊎◌, ℕ, ◌<◌, ◌≤◌, true, false, List, [], length}
use Rattle.values_undef.specs.Journal.{last_fails, has_finished, used_steps}
use Rattle.values_undef.specs.declared.access.Access.{Access}
use Rattle.values_undef.specs.declared.journal.Entry.{Entry}
use Rattle.il_syntax.specs.declared.program.Program.{Program}
use Rattle.thread_core.specs.Programs.{IsProperProgram}
use Rattle.view_machine.specs.State.{State, local_in, has_ended, initial_state}
use Rattle.view_machine.specs.Runs.{IsJournalRun, IsRunTo, state_after}
use Rattle.run_choices.specs.Complete.{IsComplete, has_spent}
use Rattle.outcome_nodes.specs.Nodes.{Node, local_of, used_of, told_of, settled, settled_use, told_by, first_node, Asks, IsMove, result_at, after_move, IsFinished, IsSpent, HasPrinted}

-- moves lead to the node
pub data IsReachable (p : Program) (steps : ℕ) : Node → Type 0 where
  begins : IsReachable p steps (first_node p steps)
  moves : (n : Node) (i : ℕ) (a : Access) (b : ℕ) → IsReachable p steps n → i < length p.threads → Asks steps n i a → IsMove n i a b → (result_at n i a b).memory.failed ≡ false → IsReachable p steps (after_move p steps n i a b)

-- The entries are a run to s, for which the node stands: with the very timestamps of the node.
pub record IsRunOf (p : Program) (steps : ℕ) (entries : List Entry) (s : State) (n : Node) : Type 0 where
  pub run : IsRunTo p entries s
  pub many_locals : length n.locals ≡ length p.threads
  pub many_used : length n.used ≡ length p.threads
  pub many_printed : length n.printed ≡ length p.threads
  pub locals : (j : ℕ) → j < length p.threads → local_of n j ≡ settled p steps (used_steps entries j) (local_in s j)
  pub used : (j : ℕ) → j < length p.threads → used_of n j ≡ settled_use p steps (used_steps entries j) (local_in s j)
  pub views : n.views ≡ s.views
  pub memory : n.memory ≡ record s.memory { outputs = [] }
  pub running : s.memory.failed ≡ false
  pub printed : HasPrinted (length p.threads) n entries
  pub many_told : length n.told ≡ length p.threads
  pub told : (j : ℕ) → j < length p.threads → told_of n j ≡ told_by entries j
  pub within : (j : ℕ) → j < length p.threads → used_steps entries j ≤ steps
  pub going : (j : ℕ) → j < length p.threads → has_ended s j ≡ false
  pub unfinished : (j : ℕ) → has_finished entries j ≡ false
  pub unspent : (j : ℕ) → has_spent entries j ≡ false
  pub goes : last_fails entries ≡ false

abbrev pub NodesAreOfRuns : Type 0
NodesAreOfRuns = (p : Program) (steps : ℕ) (n : Node) → IsProperProgram p → IsReachable p steps n → (entries : List Entry) × (s : State) × IsRunOf p steps entries s n

-- Nodes that moves lead to are equal where their threads have had the same events, and have the same views and memory.
abbrev pub NodesAreTold : Type 0
NodesAreTold = (p : Program) (steps : ℕ) (n m : Node) → IsProperProgram p → IsReachable p steps n → IsReachable p steps m → n.told ≡ m.told → n.views ≡ m.views → n.memory ≡ m.memory → n ≡ m

-- ---- outcomes

-- a journal of a run that ends in a failure, with what the node has printed
pub record IsFailedRun (p : Program) (steps : ℕ) (n : Node) (entries : List Entry) : Type 0 where
  pub run : IsJournalRun p entries
  pub complete : IsComplete p entries steps
  pub fails : last_fails entries ≡ true
  pub printed : HasPrinted (length p.threads) n entries
  pub many_printed : length n.printed ≡ length p.threads

-- A move that fails is the end of a run.
abbrev pub FailuresAreOfRuns : Type 0
FailuresAreOfRuns = (p : Program) (steps : ℕ) (n : Node) (i : ℕ) (a : Access) (b : ℕ) → IsProperProgram p → IsReachable p steps n → i < length p.threads → Asks steps n i a → IsMove n i a b → (result_at n i a b).memory.failed ≡ true
    → (entries : List Entry) × IsFailedRun p steps n entries

-- a journal of a run in which each thread ends as it stands in the node, with what the node has printed
pub record IsEndedRun (p : Program) (steps : ℕ) (n : Node) (entries : List Entry) : Type 0 where
  pub run : IsJournalRun p entries
  pub complete : IsComplete p entries steps
  pub goes : last_fails entries ≡ false
  pub finished : (j : ℕ) → j < length p.threads → IsFinished n j → has_finished entries j ≡ true
  pub spent : (j : ℕ) → j < length p.threads → IsSpent steps n j → has_finished entries j ≡ false
  pub printed : HasPrinted (length p.threads) n entries
  pub many_printed : length n.printed ≡ length p.threads
  pub memory : n.memory ≡ record (state_after p (initial_state p) entries).memory { outputs = [] }

-- A node in which no thread goes on is the end of a run.
abbrev pub EndsAreOfRuns : Type 0
EndsAreOfRuns = (p : Program) (steps : ℕ) (n : Node) → IsProperProgram p → IsReachable p steps n → ((j : ℕ) → j < length p.threads → IsFinished n j ⊎ IsSpent steps n j)
    → (entries : List Entry) × IsEndedRun p steps n entries
