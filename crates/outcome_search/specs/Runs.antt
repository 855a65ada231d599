-- The runs that the search keeps, and their nodes.
use Rattle.std.specs.Prelude.{◌≡◌, ℕ, ◌*◌, ◌^◌, ◌<◌, ◌≤◌, List, [], ◌∷◌, ◌++◌, length, map}
use Rattle.std.specs.List.{Contains, All, AllByRecursion}
use Rattle.values_undef.specs.declared.journal.Entry.{Entry}
use Rattle.il_syntax.specs.declared.program.Program.{Program}
use Rattle.view_machine.specs.Runs.{IsJournalRun}
use Rattle.run_choices.specs.Complete.{IsComplete}
use Rattle.outcome_nodes.specs.Nodes.{Node}
use Rattle.outcome_nodes.specs.Reached.{IsReachable}
use Rattle.outcome_nodes.specs.Standing.{node_of, IsNodeRun}
use Rattle.outcome_moves.specs.Room.{AreSmall}

-- the nodes in which the runs end
abbrev pub nodes_of : Program → ℕ → List (List Entry) → List Node
nodes_of p steps runs = map (node_of p steps) runs

-- the list has become longer
abbrev pub Extends : {A : Type 0} → List A → List A → Type 0
Extends {A} before after = (more : List A) × (after ≡ before ++ more)

-- no two nodes of the list are equal
abbrev pub AreDifferent : List Node → Type 0
AreDifferent [] = Unit {0}
AreDifferent (n ∷ nodes) = (Contains nodes n → ⊥) × AreDifferent nodes

-- a node stands for the run, which has at most so many entries, and timestamps up to twice that
pub record IsShortRun (p : Program) (steps most : ℕ) (entries : List Entry) : Type 0 where
  pub run : IsNodeRun p steps entries
  pub few : length entries ≤ most
  pub small : AreSmall (2 * most) entries

abbrev pub AreShortRuns : Program → ℕ → ℕ → List (List Entry) → Type 0
AreShortRuns p steps most runs = AllByRecursion (IsShortRun p steps most) runs

-- at most `limit` runs, that end in different nodes, none longer than they are many
pub record AreKeptRuns (p : Program) (steps limit : ℕ) (runs : List (List Entry)) : Type 0 where
  pub few : length runs ≤ limit
  pub short : AreShortRuns p steps (length runs) runs
  pub different : AreDifferent (nodes_of p steps runs)

-- moves lead to more than `limit` different nodes
pub record HasMoreNodes (p : Program) (steps limit : ℕ) : Type 0 where
  pub nodes : List Node
  pub reached : All (IsReachable p steps) nodes
  pub different : AreDifferent nodes
  pub more : limit < length nodes

-- the run is complete for the budget
pub record IsCompleteRun (p : Program) (steps : ℕ) (entries : List Entry) : Type 0 where
  pub run : IsJournalRun p entries
  pub complete : IsComplete p entries steps
  pub few : length entries < 2 ^ 32

abbrev pub AreCompleteRuns : Program → ℕ → List (List Entry) → Type 0
AreCompleteRuns p steps runs = AllByRecursion (IsCompleteRun p steps) runs
