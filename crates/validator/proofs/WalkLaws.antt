-- The walk of a target beside its source, statement by statement.
use Rattle.std.proofs.Common.{◌≡◌, ℕ, ◌+◌, ◌<◌, ◌≤◌, Bool, true, false, cond, ◌&&◌, List, [], ◌∷◌, ◌++◌, length, get_or, drop, nat_eq, refl, sym, ap, ◌∙◌, arith}
use Rattle.std.proofs.lemmas.Bool.{false≢true, ne_eqb, eq-eqb}
use Rattle.std.proofs.lemmas.List.{length-drop}
use Rattle.il_syntax.specs.declared.statement.Stmt.{Stmt, out-Stmt, map-Stmt}
use Rattle.il_syntax.specs.declared.statement.Stmt.TheOpen.{Stmt-F, Skip, Copy, Compute, Load, Store, AtomicLoad, AtomicStore, Update, Fence, Print, If, While, Call}
use Rattle.il_syntax.specs.declared.statement.Block.{Block}
use Rattle.il_syntax.specs.Statements.{Head, head_of}
use Rattle.il_paths.specs.Tree.{Tree, Empty, statement_step, before_rest, tree_of_all}
use Rattle.il_paths.proofs.Callers.{layer, before_rest-out, tree_of-drop}
use Rattle.validator.specs.declared.walk.NewRegisters.{NewRegisters}
use Rattle.validator.specs.declared.walk.Part.{Part}
use Rattle.validator.specs.Walk.{is_inserted, before_loop, inserted_part, Apart, and_then, at_end, plain_step, walk}
use Rattle.validator.specs.Walked.{is_loop, came_to}

-- one layer without its blocks
abbrev bare : Stmt-F Stmt Block → Head
bare = map-Stmt Stmt Block (Unit {0}) (Unit {0}) (λ _. tt) (λ _. tt)

module _ (new : NewRegisters) where
  before_loop-step : (x : Stmt-F Stmt Block) (rest : Tree) → before_loop new (statement_step (layer x) rest) ≡ cond (is_loop (bare x)) true (is_inserted new (bare x) && before_loop new rest)
  before_loop-step Skip rest = refl
  before_loop-step (Copy r a) rest = refl
  before_loop-step (Compute r op a b) rest = refl
  before_loop-step (Load r x) rest = refl
  before_loop-step (Store x a) rest = refl
  before_loop-step (AtomicLoad r order y) rest = refl
  before_loop-step (AtomicStore order y a) rest = refl
  before_loop-step (Update r order y kind) rest = refl
  before_loop-step (Fence order) rest = refl
  before_loop-step (Print a) rest = refl
  before_loop-step (If a one other) rest = refl
  before_loop-step (While a body) rest = refl
  before_loop-step (Call r function args) rest = refl

  before_loop-before : (s : Stmt) (rest : Tree) → before_loop new (before_rest s rest) ≡ cond (is_loop (head_of s)) true (is_inserted new (head_of s) && before_loop new rest)
  before_loop-before s rest = ap (before_loop new) (before_rest-out s rest) ∙ before_loop-step (out-Stmt s) rest

  -- one statement of a list further
  pub before_loop-drop : (ss : List Stmt) (i : ℕ) (s : Stmt) → i < length ss → s ≡ get_or ss i s → before_loop new (tree_of_all (drop i ss)) ≡ cond (is_loop (head_of s)) true (is_inserted new (head_of s) && before_loop new (tree_of_all (drop (i + 1) ss)))
  before_loop-drop ss i s h e = ap (before_loop new) (tree_of-drop ss i s h e) ∙ before_loop-before s (tree_of_all (drop (i + 1) ss))

  inserted-step : (x : Stmt-F Stmt Block) (rest source : Tree) (done : List Part) → is_inserted new (bare x) ≡ true → walk new (statement_step (layer x) rest) source done ≡ walk new rest source (done ++ inserted_part (before_loop new rest) ∷ [])
  inserted-step Skip rest source done e = absurd (false≢true e)
  inserted-step (Copy r a) rest source done e = absurd (false≢true e)
  inserted-step (Compute r op a b) rest source done e = absurd (false≢true e)
  inserted-step (Load r x) rest source done e =
      ap (λ (t : Bool). cond t (walk new rest source (done ++ inserted_part (before_loop new rest) ∷ [])) (plain_step (Load r x) done source (walk new rest))) e
  inserted-step (Store x a) rest source done e = absurd (false≢true e)
  inserted-step (AtomicLoad r order y) rest source done e = absurd (false≢true e)
  inserted-step (AtomicStore order y a) rest source done e = absurd (false≢true e)
  inserted-step (Update r order y kind) rest source done e = absurd (false≢true e)
  inserted-step (Fence order) rest source done e = absurd (false≢true e)
  inserted-step (Print a) rest source done e = absurd (false≢true e)
  inserted-step (If a one other) rest source done e = absurd (false≢true e)
  inserted-step (While a body) rest source done e = absurd (false≢true e)
  inserted-step (Call r function args) rest source done e = absurd (false≢true e)

  pub walk-inserted : (ss : List Stmt) (i : ℕ) (s : Stmt) (source : Tree) (done : List Part) → i < length ss → s ≡ get_or ss i s → is_inserted new (head_of s) ≡ true → walk new (tree_of_all (drop i ss)) source done ≡ walk new (tree_of_all (drop (i + 1) ss)) source (done ++ inserted_part (before_loop new (tree_of_all (drop (i + 1) ss))) ∷ [])
  walk-inserted ss i s source done h e own =
      let rest = tree_of_all (drop (i + 1) ss) in
      ap (λ (t : Tree). walk new t source done) (tree_of-drop ss i s h e ∙ before_rest-out s rest) ∙ inserted-step (out-Stmt s) rest source done own

  alone-step : (x : Stmt-F Stmt Block) (rest : Tree) (done : List Part) → is_inserted new (bare x) ≡ false → walk new (statement_step (layer x) rest) Empty done ≡ Apart (length done)
  alone-step Skip rest done e = refl
  alone-step (Copy r a) rest done e = refl
  alone-step (Compute r op a b) rest done e = refl
  alone-step (Load r x) rest done e =
      ap (λ (t : Bool). cond t (walk new rest Empty (done ++ inserted_part (before_loop new rest) ∷ [])) (Apart (length done))) e
  alone-step (Store x a) rest done e = refl
  alone-step (AtomicLoad r order y) rest done e = refl
  alone-step (AtomicStore order y a) rest done e = refl
  alone-step (Update r order y kind) rest done e = refl
  alone-step (Fence order) rest done e = refl
  alone-step (Print a) rest done e = refl
  alone-step (If a one other) rest done e = refl
  alone-step (While a body) rest done e = refl
  alone-step (Call r function args) rest done e = refl

  -- a statement that isn't inserted, where nothing is left of the source
  pub walk-alone : (ss : List Stmt) (i : ℕ) (s : Stmt) (done : List Part) → i < length ss → s ≡ get_or ss i s → is_inserted new (head_of s) ≡ false → walk new (tree_of_all (drop i ss)) Empty done ≡ Apart (length done)
  walk-alone ss i s done h e own =
      let rest = tree_of_all (drop (i + 1) ss) in
      ap (λ (t : Tree). walk new t Empty done) (tree_of-drop ss i s h e ∙ before_rest-out s rest) ∙ alone-step (out-Stmt s) rest done own

-- where more of the source is left at the end
left-step : (x : Stmt-F Stmt Block) (rest : Tree) (done : List Part) → at_end (statement_step (layer x) rest) done ≡ Apart (length done)
left-step Skip rest done = refl
left-step (Copy r a) rest done = refl
left-step (Compute r op a b) rest done = refl
left-step (Load r x) rest done = refl
left-step (Store x a) rest done = refl
left-step (AtomicLoad r order y) rest done = refl
left-step (AtomicStore order y a) rest done = refl
left-step (Update r order y kind) rest done = refl
left-step (Fence order) rest done = refl
left-step (Print a) rest done = refl
left-step (If a one other) rest done = refl
left-step (While a body) rest done = refl
left-step (Call r function args) rest done = refl

pub at_end-came : (ss : List Stmt) (n : ℕ) (done : List Part) → n ≤ length ss → at_end (tree_of_all (drop n ss)) done ≡ came_to (nat_eq n (length ss)) done
at_end-came ss n done h = go (drop n ss) refl
  where
    go : (rest : List Stmt) → drop n ss ≡ rest → at_end (tree_of_all rest) done ≡ came_to (nat_eq n (length ss)) done
    go [] e = let k : n ≡ length ss = omega (arith, ap length e, length-drop n ss) in ap (λ (t : Bool). came_to t done) (sym (eq-eqb n (length ss) k))
    go (s ∷ rest) e =
        let k : n ≡ length ss → ⊥ = λ f. omega (arith, ap length e, length-drop n ss) in
        ap (λ (t : Tree). at_end t done) (before_rest-out s (tree_of_all rest)) ∙ left-step (out-Stmt s) (tree_of_all rest) done ∙
        ap (λ (t : Bool). came_to t done) (sym (ne_eqb n (length ss) k))

-- a statement and its partner further
pub walk-paired : (new : NewRegisters) (ss pp : List Stmt) (i n : ℕ) (s p : Stmt) (done later : List Part) (whole : Bool) → i < length ss → s ≡ get_or ss i s → n < length pp → p ≡ get_or pp n p → ((rest more : Tree) → walk new (before_rest s rest) (before_rest p more) done ≡ and_then (came_to whole later) (walk new rest more)) → walk new (tree_of_all (drop i ss)) (tree_of_all (drop n pp)) done ≡ and_then (came_to whole later) (walk new (tree_of_all (drop (i + 1) ss)) (tree_of_all (drop (n + 1) pp)))
walk-paired new ss pp i n s p done later whole h e k f g =
    let target = tree_of-drop ss i s h e in
    let source = tree_of-drop pp n p k f in
    (λ j. walk new (target j) (source j) done) ∙ g (tree_of_all (drop (i + 1) ss)) (tree_of_all (drop (n + 1) pp))
