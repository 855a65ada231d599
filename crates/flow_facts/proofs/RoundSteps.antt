-- A round over a list of statements, one after the other.
use Rattle.std.proofs.Common.{◌≡◌, ℕ, ◌+◌, ◌<◌, List, length, get_or, drop, refl, sym, ap, ◌∙◌, arith}
use Rattle.il_syntax.specs.declared.statement.Stmt.{Stmt, out-Stmt}
use Rattle.il_syntax.specs.declared.statement.Stmt.TheOpen.{Stmt-F, Skip, Copy, Compute, Load, Store, AtomicLoad, AtomicStore, Update, Fence, Print, If, While, Call}
use Rattle.il_paths.specs.Tree.{Tree, Empty, statement_step, before_rest, tree_of_all, sites_of}
use Rattle.il_paths.specs.Code.{Visit, placed}
use Rattle.il_paths.proofs.Callers.{layer, before_rest-out, tree_of-drop}
use Rattle.flow_facts.specs.Rounds.{round}

module _ (L : Type 0) (rank : L → ℕ) (step : Visit → L → L) where
  -- a round over more code, from where another round ended
  abbrev pub onward : ℕ → Tree → List L × L → List L × L
  onward n rest r = round L rank step (placed n rest) r.0 r.1

  round-step : (x : Stmt-F (Tree → Tree) Tree) (rest : Tree) (n : ℕ) (kept : List L) (l : L) → round L rank step (placed n (statement_step x rest)) kept l ≡ onward (n + sites_of (statement_step x Empty)) rest (round L rank step (placed n (statement_step x Empty)) kept l)
  round-step Skip rest n kept l = refl
  round-step (Copy r a) rest n kept l = refl
  round-step (Compute r op a b) rest n kept l = refl
  round-step (Load r x) rest n kept l = refl
  round-step (Store x a) rest n kept l = refl
  round-step (AtomicLoad r order y) rest n kept l = refl
  round-step (AtomicStore order y a) rest n kept l = refl
  round-step (Update r order y kind) rest n kept l = refl
  round-step (Fence order) rest n kept l = refl
  round-step (Print a) rest n kept l = refl
  round-step (If a one other) rest n kept l =
      let r = round L rank step (placed n (statement_step (If a one other) Empty)) kept l in
      let e : n + 1 + sites_of one + sites_of other ≡ n + (1 + sites_of one + sites_of other + 0) = omega arith in ap (λ k. onward k rest r) e
  round-step (While a body) rest n kept l =
      let r = round L rank step (placed n (statement_step (While a body) Empty)) kept l in
      let e : n + 1 + sites_of body ≡ n + (1 + sites_of body + 0) = omega arith in ap (λ k. onward k rest r) e
  round-step (Call r function args) rest n kept l = refl

  -- a statement, and then the rest
  pub round-before : (s : Stmt) (rest : Tree) (n : ℕ) (kept : List L) (l : L) → round L rank step (placed n (before_rest s rest)) kept l ≡ onward (n + sites_of (before_rest s Empty)) rest (round L rank step (placed n (before_rest s Empty)) kept l)
  round-before s rest n kept l =
      let x = layer (out-Stmt s) in
      ap (λ (t : Tree). round L rank step (placed n t) kept l) (before_rest-out s rest) ∙ round-step x rest n kept l ∙
      ap (λ (t : Tree). onward (n + sites_of t) rest (round L rank step (placed n t) kept l)) (sym (before_rest-out s Empty))

  -- one statement of a list further
  pub round-drop : (ss : List Stmt) (i : ℕ) (s : Stmt) (n : ℕ) (kept : List L) (l : L) → i < length ss → s ≡ get_or ss i s → round L rank step (placed n (tree_of_all (drop i ss))) kept l ≡ onward (n + sites_of (before_rest s Empty)) (tree_of_all (drop (i + 1) ss)) (round L rank step (placed n (before_rest s Empty)) kept l)
  round-drop ss i s n kept l h e =
      ap (λ (t : Tree). round L rank step (placed n t) kept l) (tree_of-drop ss i s h e) ∙ round-before s (tree_of_all (drop (i + 1) ss)) n kept l
