-- What a thread does next where a run ends, and the runs to which its accesses lead.
use Rattle.std.specs.Prelude.{◌≡◌, ◌⊎◌, ℕ, ◌+◌, ◌-◌, ◌<◌, ◌≤◌, true, false, Option, None, Some, List, ◌++◌, length}
use Rattle.std.specs.List.{Contains, AllByRecursion}
use Rattle.values_undef.specs.Journal.{used_steps}
use Rattle.values_undef.specs.declared.access.Access.{Access}
use Rattle.values_undef.specs.declared.journal.Entry.{Entry}
use Rattle.il_syntax.specs.declared.program.Program.{Program}
use Rattle.thread_core.specs.Programs.{IsProperAccess}
use Rattle.view_machine.specs.State.{State, local_in, initial_state}
use Rattle.view_machine.specs.Runs.{state_after}
use Rattle.outcome_nodes.specs.Nodes.{Node, silent_steps, Asks, IsMove, IsFinished, IsSpent}
use Rattle.outcome_nodes.specs.Standing.{node_of, GoesOnBy, FailsBy}
use Rattle.outcome_moves.specs.Room.{AreSmall}
use Rattle.outcome_moves.specs.declared.standing.What.{What}
use Rattle.outcome_moves.specs.declared.standing.What.TheVariants as what
use Rattle.outcome_moves.specs.declared.moves.Move.{Move}

-- the state in which the entries end
abbrev pub last_state : Program → List Entry → State
last_state p entries = state_after p (initial_state p) entries

-- the state in which the entries end, but for the locals of the threads before thread i
pub record StandsFrom (p : Program) (entries : List Entry) (i : ℕ) (s : State) : Type 0 where
  pub memory : s.memory ≡ (last_state p entries).memory
  pub views : s.views ≡ (last_state p entries).views
  pub ended : s.ended ≡ (last_state p entries).ended
  pub threads : length s.locals ≡ length (last_state p entries).locals
  pub locals : (j : ℕ) → i ≤ j → local_in s j ≡ local_in (last_state p entries) j

-- the silent steps that a thread makes there, up to its next access or the end of its budget
abbrev pub silent_there : Program → ℕ → List Entry → ℕ → ℕ
silent_there p steps entries i = silent_steps p (steps - used_steps entries i) (local_in (last_state p entries) i)

-- what it does after them
abbrev pub IsWhat : Program → ℕ → List Entry → ℕ → What → Type 0
IsWhat p steps entries i (what.Asks a) = Asks steps (node_of p steps entries) i a × IsProperAccess p a
IsWhat p steps entries i what.Finished = IsFinished (node_of p steps entries) i
IsWhat p steps entries i what.Spent = IsSpent steps (node_of p steps entries) i

-- ---- moves

abbrev pub IsMoved : Program → ℕ → Node → ℕ → Access → ℕ → Move → Type 0
IsMoved p steps n i a b m = ((m.fails ≡ true) × FailsBy p steps n i a b m.entries.items) ⊎ ((m.fails ≡ false) × GoesOnBy p steps n i a b m.entries.items)

abbrev pub IsTried : Program → ℕ → Node → ℕ → Access → ℕ → Option Move → Type 0
IsTried p steps n i a b None = IsMove n i a b → ⊥
IsTried p steps n i a b (Some m) = IsMove n i a b × IsMoved p steps n i a b m

-- its timestamps are at most two higher than those before it, and it has one entry more
abbrev pub IsSmallMove : List Entry → Move → Type 0
IsSmallMove entries m = (length m.entries.items ≡ length entries + 1) × ((most : ℕ) → AreSmall most entries → AreSmall (most + 2) m.entries.items)

abbrev pub HasSmallMove : ℕ → List Entry → Option Move → Type 0
HasSmallMove b entries None = Unit {0}
HasSmallMove b entries (Some m) = (length m.entries.items ≡ length entries + 1) × ((most : ℕ) → b ≤ most → AreSmall most entries → AreSmall (most + 2) m.entries.items)

-- a move of the list is that of thread i at b
abbrev pub HasMove : Program → ℕ → Node → List Move → ℕ → Access → ℕ → Type 0
HasMove p steps n moves i a b = (m : Move) × Contains moves m × IsMoved p steps n i a b m

-- some move that a thread may make
pub record IsSomeMove (p : Program) (steps : ℕ) (n : Node) (m : Move) : Type 0 where
  pub thread : ℕ
  pub access : Access
  pub behind : ℕ
  pub there : thread < length p.threads
  pub asks : Asks steps n thread access
  pub move : IsMove n thread access behind
  pub moved : IsMoved p steps n thread access behind m

-- each move of thread i is in the list
abbrev pub HasMovesOf : Program → ℕ → Node → List Move → ℕ → Type 0
HasMovesOf p steps n moves i = (a : Access) (b : ℕ) → Asks steps n i a → IsMove n i a b → HasMove p steps n moves i a b

-- the list has become longer by moves that threads may make
abbrev pub GrowsBy : Program → ℕ → Node → List Entry → List Move → List Move → Type 0
GrowsBy p steps n entries before after = (more : List Move) × (after ≡ before ++ more) × AllByRecursion (IsSomeMove p steps n) more × AllByRecursion (IsSmallMove entries) more
