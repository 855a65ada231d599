-- Laws of levels.
use Rattle.std.specs.Prelude.{◌≡◌, ◌≢◌, ◌<◌, ◌≤◌, ◌⊎◌, ℕ, true, false, List, Option, Some, ◌∷◌, [], ◌++◌}
use Rattle.il_syntax.specs.declared.statement.Atom.{Atom}
use Rattle.il_syntax.specs.declared.statement.Atom.TheVariants.{Reg}
use Rattle.il_syntax.specs.declared.statement.Stmt.TheOpen.{Load, Store}
use Rattle.il_syntax.specs.Statements.{Head}
use Rattle.il_paths.specs.Heads.{is_acquire, is_release, gives, stored_location, is_call}
use Rattle.il_paths.specs.Tree.{Tree, sites_of}
use Rattle.il_paths.specs.Code.{Visit, Code, placed, first}
use Rattle.il_paths.specs.Paths.{RunsTo}
use Rattle.path_meets.specs.Walks.{meet, meet_of_turns}
use Rattle.flow_facts.specs.declared.level.Kind.{Kind}
use Rattle.flow_facts.specs.declared.level.Level.{Level}
use Rattle.flow_facts.specs.declared.level.Level.TheVariants.{Nothing, Held, Fresh}
use Rattle.flow_facts.specs.declared.transfer.Transfer.{Transfer}
use Rattle.flow_facts.specs.declared.known.Known.{Known}
use Rattle.flow_facts.specs.Levels.{rank_of, after_transfer, level_change, level_step, level_along, level_by, level_on, IsLevel}
use Rattle.flow_facts.specs.Rows.{IsTable, IsBest, IsLeastKnown}
use Rattle.flow_facts.specs.Transfers.{followed_by, lower_transfer, repeated}

-- what a pair that stays above nothing says of a statement that didn't make it: an acquire was passed
-- only where the pair was fresh, and after a release it is fresh no more
pub record Kept (head : Head) (x : ℕ) (a : Atom) (before after : Level) : Type 0 where
  pub above : before ≢ Nothing
  pub fresh : after ≡ Fresh → before ≡ Fresh
  pub not_stored : stored_location head ≢ Some x
  pub not_given : (r : ℕ) → gives head ≡ Some r → a ≢ Reg r
  pub no_call : is_call head ≡ false
  pub heard : is_acquire head ≡ true → before ≡ Fresh
  pub handed : is_release head ≡ true → after ≢ Fresh

-- A pair above nothing after a statement was made fresh by a store, made held by a load, or kept.
abbrev pub PairsAreMadeOrKept : Type 0
PairsAreMadeOrKept = (kind : Kind) (x : ℕ) (a : Atom) (head : Head) (before : Level) → level_change kind x a head before ≢ Nothing →
    ((head ≡ Store x a) × (level_change kind x a head before ≡ Fresh)) ⊎
    (((r : ℕ) × (head ≡ Load r x) × (a ≡ Reg r) × (level_change kind x a head before ≡ Held)) ⊎
    Kept head x a before (level_change kind x a head before))

-- The same in the kind of both.
abbrev pub LevelsComeFrom : Type 0
LevelsComeFrom = (head : Head) (x : ℕ) (a : Atom) (before : Level) → level_by x a head before ≢ Nothing →
    (head ≡ Store x a) ⊎
    (((r : ℕ) × (head ≡ Load r x) × (a ≡ Reg r) × (level_by x a head before ≡ Held)) ⊎
    Kept head x a before (level_by x a head before))

-- One statement more on a path is one step more.
abbrev pub LevelsGoStepByStep : Type 0
LevelsGoStepByStep = (kind : Kind) (x : ℕ) (a : Atom) (p : List Visit) (v : Visit) → level_along kind x a (p ++ v ∷ []) ≡ level_step kind x a v (level_along kind x a p)

-- The level before a site is at most the level along each path that leads there.
abbrev pub LevelsAreLowest : Type 0
LevelsAreLowest = (kind : Kind) (x : ℕ) (a : Atom) (c k : Code) (p : List Visit) (v : Visit) (l : Level) → IsLevel c v.site kind x a l → RunsTo c p k → first k ≡ Some v → rank_of l ≤ rank_of (level_along kind x a p)

-- Along each path both kinds of facts know at least what one kind knows.
abbrev pub BothKnowMore : Type 0
BothKnowMore = (kind : Kind) (x : ℕ) (a : Atom) (p : List Visit) → rank_of (level_along kind x a p) ≤ rank_of (level_on x a p)

-- Transfers compose, meet and repeat.
abbrev pub TransfersCompose : Type 0
TransfersCompose = (s t : Transfer) (l : Level) → after_transfer (followed_by s t) l ≡ after_transfer t (after_transfer s l)

abbrev pub TransfersMeet : Type 0
TransfersMeet = (s t : Transfer) (l : Level) → after_transfer (lower_transfer s t) l ≡ meet Level rank_of (after_transfer s l) (after_transfer t l)

abbrev pub TransfersRepeat : Type 0
TransfersRepeat = (t : Transfer) (l : Level) → after_transfer (repeated t) l ≡ meet_of_turns Level rank_of 2 (after_transfer t) l

-- The least atom that a table has before a site is the least above nothing over all paths.
abbrev pub TablesTellTheBest : Type 0
TablesTellTheBest = (tree : Tree) (kind : Kind) (rows : List (List Known)) (site x : ℕ) (best : Option Atom) →
    IsTable tree kind rows → site < sites_of tree → IsLeastKnown rows site x best → IsBest (placed 0 tree) site kind x best

-- At each site each pair has one level.
abbrev pub LevelsAreOne : Type 0
LevelsAreOne = (kind : Kind) (x : ℕ) (a : Atom) (c : Code) (site : ℕ) (l m : Level) → IsLevel c site kind x a l → IsLevel c site kind x a m → l ≡ m

-- At each site of a tree each pair has a level.
abbrev pub LevelsExist : Type 0
LevelsExist = (kind : Kind) (x : ℕ) (a : Atom) (tree : Tree) (site : ℕ) → site < sites_of tree → (l : Level) × IsLevel (placed 0 tree) site kind x a l

-- There is one least atom above nothing.
abbrev pub BestIsOne : Type 0
BestIsOne = (kind : Kind) (x : ℕ) (tree : Tree) (site : ℕ) (b c : Option Atom) → site < sites_of tree → IsBest (placed 0 tree) site kind x b → IsBest (placed 0 tree) site kind x c → b ≡ c
