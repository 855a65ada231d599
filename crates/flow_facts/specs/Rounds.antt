-- Rounds over code: the levels of one pair are kept site by site, and each round brings them down to what
-- comes there, until none falls. For the body that iterates and its proofs; no public clause cites this.
use Rattle.std.specs.Prelude.{ℕ, List, [], ◌∷◌, ◌++◌, slice_index_or, slice_set}
use Rattle.il_syntax.specs.declared.statement.Atom.TheVariants.{Reg}
use Rattle.il_syntax.specs.declared.statement.Stmt.TheOpen.{Skip, Copy, Compute, Load, Store, AtomicLoad, AtomicStore, Update, Fence, Print, If, While, Call}
use Rattle.il_syntax.specs.Statements.{Head}
use Rattle.il_paths.specs.Tree.{Tree, Empty, Then, IfThen, WhileThen, head_of_leaf}
use Rattle.il_paths.specs.Code.{Visit, Code, End, Plain, Branch, Loop}
use Rattle.path_meets.specs.Walks.{meet}
use Rattle.flow_facts.specs.declared.given.Pair.{Pair}

module _ (L : Type 0) (rank : L → ℕ) where
  -- what is kept at a site, brought down to what comes there
  abbrev pub brought : List L → ℕ → L → L
  brought kept site l = meet L rank (slice_index_or kept site l) l

module _ (L : Type 0) (rank : L → ℕ) (step : Visit → L → L) where
  -- One round over code, from what is kept and what is known before the code: what is kept after it, and
  -- what is known after the code.
  abbrev pub round : Code → List L → L → List L × L
  round End kept l = (kept, l)
  round (Plain v rest) kept l =
      let m = brought L rank kept v.site l in round rest (slice_set kept v.site m) (step v m)
  round (Branch v yes_block no_block rest) kept l =
      let m = brought L rank kept v.site l in
      let first = round yes_block (slice_set kept v.site m) (step v m) in
      let second = round no_block first.0 (step v m) in
      round rest second.0 (meet L rank first.1 second.1)
  round (Loop v body rest) kept l =
      let m = brought L rank kept v.site l in
      let turn = round body (slice_set kept v.site m) (step v m) in
      let n = brought L rank turn.0 v.site turn.1 in
      round rest (slice_set turn.0 v.site n) (step v n)

-- the pair that a statement gives
abbrev pub given_by : Head → List Pair
given_by Skip = []
given_by (Copy r a) = []
given_by (Compute r op a b) = []
given_by (Load r x) = record { x = x; a = Reg r } ∷ []
given_by (Store x a) = record { x = x; a = a } ∷ []
given_by (AtomicLoad r order y) = []
given_by (AtomicStore order y a) = []
given_by (Update r order y kind) = []
given_by (Fence order) = []
given_by (Print a) = []
given_by (If a _ _) = []
given_by (While a _) = []
given_by (Call r function args) = []

-- those of a tree, in text order
abbrev pub given_of : Tree → List Pair
given_of Empty = []
given_of (Then leaf rest) = given_by (head_of_leaf leaf) ++ given_of rest
given_of (IfThen a yes_block no_block rest) = given_of yes_block ++ (given_of no_block ++ given_of rest)
given_of (WhileThen a body rest) = given_of body ++ given_of rest
