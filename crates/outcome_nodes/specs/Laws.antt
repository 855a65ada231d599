-- What a closed list of nodes has.
use Rattle.std.specs.Prelude.{◌≡◌, ◌⊎◌, ℕ, ◌<◌, true, false, List, length}
use Rattle.std.specs.List.{Contains}
use Rattle.values_undef.specs.Journal.{last_fails, has_finished}
use Rattle.values_undef.specs.declared.access.Access.{Access}
use Rattle.values_undef.specs.declared.journal.Entry.{Entry}
use Rattle.il_syntax.specs.declared.program.Program.{Program}
use Rattle.thread_core.specs.Programs.{IsProperProgram}
use Rattle.view_machine.specs.State.{initial_state}
use Rattle.view_machine.specs.Runs.{IsJournalRun, state_after}
use Rattle.run_choices.specs.Complete.{IsComplete}
use Rattle.memory_likeness.specs.Likeness.{AreMemoriesAlike}
use Rattle.outcome_nodes.specs.Nodes.{Node, first_node, Asks, IsMove, result_at, after_move, IsFinished, IsSpent, HasPrinted}

-- the list has the first node, and with a node each one that a move leads to
pub record IsClosedUnderMoves (p : Program) (steps : ℕ) (nodes : List Node) : Type 0 where
  pub first : Contains nodes (first_node p steps)
  pub moves : (n : Node) (i : ℕ) (a : Access) (b : ℕ) → Contains nodes n → i < length p.threads → Asks steps n i a → IsMove n i a b → (result_at n i a b).memory.failed ≡ false → Contains nodes (after_move p steps n i a b)

-- a move from a node of the list fails, and the node has printed what the journal prints
pub record FailsFrom (p : Program) (steps : ℕ) (nodes : List Node) (entries : List Entry) : Type 0 where
  pub node : Node
  pub thread : ℕ
  pub access : Access
  pub behind : ℕ
  pub listed : Contains nodes node
  pub there : thread < length p.threads
  pub asks : Asks steps node thread access
  pub move : IsMove node thread access behind
  pub fails : (result_at node thread access behind).memory.failed ≡ true
  pub printed : HasPrinted (length p.threads) node entries

-- no thread of a node of the list goes on, each as the journal says, the node has printed what the journal prints, and
-- its memory is alike to that in which the journal ends
pub record EndsIn (p : Program) (steps : ℕ) (nodes : List Node) (entries : List Entry) : Type 0 where
  pub node : Node
  pub listed : Contains nodes node
  pub finished : (i : ℕ) → i < length p.threads → has_finished entries i ≡ true → IsFinished node i
  pub spent : (i : ℕ) → i < length p.threads → has_finished entries i ≡ false → IsSpent steps node i
  pub printed : HasPrinted (length p.threads) node entries
  pub memory : AreMemoriesAlike (state_after p (initial_state p) entries).memory node.memory

-- A closed list has the outcome of each run of the program, whatever its timestamps and its order.
abbrev pub NothingIsMissed : Type 0
NothingIsMissed = (p : Program) (steps : ℕ) (nodes : List Node) (entries : List Entry) → IsProperProgram p → IsClosedUnderMoves p steps nodes → IsJournalRun p entries → IsComplete p entries steps
    → ((last_fails entries ≡ true) × FailsFrom p steps nodes entries) ⊎ ((last_fails entries ≡ false) × EndsIn p steps nodes entries)
