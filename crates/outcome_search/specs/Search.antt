-- What the search has done.
use Rattle.std.specs.Prelude.{◌≡◌, ◌⊎◌, ℕ, ◌<◌, true, false, List, length, slice_index_or}
use Rattle.std.specs.List.{Contains, AllByRecursion}
use Rattle.values_undef.specs.declared.access.Access.{Access}
use Rattle.values_undef.specs.declared.journal.Entry.{Entry}
use Rattle.il_syntax.specs.declared.program.Program.{Program}
use Rattle.outcome_nodes.specs.Nodes.{Node, Asks, IsMove, result_at, after_move, IsFinished, IsSpent}
use Rattle.outcome_nodes.specs.Laws.{IsClosedUnderMoves}
use Rattle.outcome_nodes.specs.Outcome.{Fails}
use Rattle.outcome_nodes.specs.Reached.{IsFailedRun, IsEndedRun}
use Rattle.outcome_nodes.specs.Standing.{node_of}
use Rattle.outcome_moves.specs.declared.moves.Move.{Move}
use Rattle.outcome_search.specs.Runs.{nodes_of, IsShortRun, IsCompleteRun, AreKeptRuns, AreCompleteRuns}

-- the run of a move is complete, or a short one that goes on
pub record IsUsable (p : Program) (steps most : ℕ) (m : Move) : Type 0 where
  pub complete : m.fails ≡ true → IsCompleteRun p steps m.entries.items
  pub goes : m.fails ≡ false → IsShortRun p steps most m.entries.items

-- the run of a move that fails is among the failed ones, and the node after one that doesn't is kept
pub record IsEntered (p : Program) (steps : ℕ) (kept failed : List (List Entry)) (m : Move) : Type 0 where
  pub fails : m.fails ≡ true → Contains failed m.entries.items
  pub goes : m.fails ≡ false → Contains (nodes_of p steps kept) (node_of p steps m.entries.items)

-- each node that a move from n leads to is in the list
abbrev pub HasMoves : Program → ℕ → Node → List Node → Type 0
HasMoves p steps n list = (i : ℕ) (a : Access) (b : ℕ) → i < length p.threads → Asks steps n i a → IsMove n i a b → (result_at n i a b).memory.failed ≡ false → Contains list (after_move p steps n i a b)

-- where a move from n fails, a run that fails there is in the list
abbrev pub HasFailure : Program → ℕ → Node → List (List Entry) → Type 0
HasFailure p steps n runs = Fails p steps n → (entries : List Entry) × Contains runs entries × IsFailedRun p steps n entries

-- where no thread goes on from n, a run that ends there is in the list
abbrev pub HasEnding : Program → ℕ → Node → List (List Entry) → Type 0
HasEnding p steps n runs = ((i : ℕ) → i < length p.threads → IsFinished n i ⊎ IsSpent steps n i) → (entries : List Entry) × Contains runs entries × IsEndedRun p steps n entries

-- all moves from n were made
pub record IsExplored (p : Program) (steps : ℕ) (kept failed : List (List Entry)) (n : Node) : Type 0 where
  pub moves : HasMoves p steps n (nodes_of p steps kept)
  pub failure : HasFailure p steps n failed

-- those of the first d nodes were
abbrev pub AreExplored : Program → ℕ → ℕ → List (List Entry) → List (List Entry) → Type 0
AreExplored p steps d kept failed = (k : ℕ) (n : Node) → k < d → k < length kept → slice_index_or (nodes_of p steps kept) k n ≡ n → IsExplored p steps kept failed n

-- the search is at its end
pub record HasAllNodes (p : Program) (steps limit : ℕ) (kept failed : List (List Entry)) : Type 0 where
  pub runs : AreKeptRuns p steps limit kept
  pub closed : IsClosedUnderMoves p steps (nodes_of p steps kept)
  pub failures : (n : Node) → Contains (nodes_of p steps kept) n → HasFailure p steps n failed
  pub complete : AreCompleteRuns p steps failed
