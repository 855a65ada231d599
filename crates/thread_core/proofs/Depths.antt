-- The blocks of a tree lie as deep as those of its block.
use Rattle.std.proofs.Common.{◌≡◌, ℕ, ◌+◌, max, List, [], ◌∷◌, map, refl, sym, ap, ◌∙◌, subst, arith}
use Rattle.il_syntax.specs.declared.statement.Stmt.{Stmt, roll-Stmt, out-Stmt, out-roll-Stmt, map-Stmt, fold_out-Stmt}
use Rattle.il_syntax.specs.declared.statement.Stmt.TheFolds.{ind-Block, map-Block}
use Rattle.il_syntax.specs.declared.statement.Stmt.TheOpen.{Stmt-F, Block-F, Skip, Copy, Compute, Load, Store, AtomicLoad, AtomicStore, Update, Fence, Print, If, While, Call}
use Rattle.il_syntax.specs.declared.statement.Block.{Block, roll-Block, fold-Block, fold_out-Block}
use Rattle.il_syntax.specs.Statements.{depth_step, depth_block, depth_of, depth_of_all, greatest}
use Rattle.il_paths.specs.Tree.{Tree, statement_step, before_rest, tree_of, tree_of_all}
use Rattle.il_paths.proofs.Callers.{layer, before_rest-out, tree_of-block}
use Rattle.thread_core.specs.Path.{depth}

abbrev folded : Block → ℕ
folded = fold-Block ℕ ℕ depth_step depth_block

abbrev DepthFirst : Stmt → Type 0
DepthFirst s = (rest : Tree) → depth (before_rest s rest) ≡ max (depth_of s) (depth rest)

abbrev SameDepth : Block → Type 0
SameDepth b = depth (tree_of b) ≡ folded b

abbrev Shown : Type 0
Shown = Stmt-F ((s : Stmt) × DepthFirst s) ((b : Block) × SameDepth b)

abbrev plain_of : Shown → Stmt-F Stmt Block
plain_of = map-Stmt ((s : Stmt) × DepthFirst s) ((b : Block) × SameDepth b) Stmt Block (λ e. e.0) (λ e. e.0)

abbrev depth_layer : Stmt-F Stmt Block → Stmt-F ℕ ℕ
depth_layer = map-Stmt Stmt Block ℕ ℕ depth_of folded

depth_of-out : (s : Stmt) → depth_of s ≡ depth_step (depth_layer (out-Stmt s))
depth_of-out s = fold_out-Stmt ℕ ℕ depth_step depth_block s

first_of_layer : (y : Shown) (rest : Tree) → depth (statement_step (layer (plain_of y)) rest) ≡ max (depth_step (depth_layer (plain_of y))) (depth rest)
first_of_layer Skip rest = omega arith
first_of_layer (Copy r a) rest = omega arith
first_of_layer (Compute r op a b) rest = omega arith
first_of_layer (Load r x) rest = omega arith
first_of_layer (Store x a) rest = omega arith
first_of_layer (AtomicLoad r order y) rest = omega arith
first_of_layer (AtomicStore order y a) rest = omega arith
first_of_layer (Update r order y kind) rest = omega arith
first_of_layer (Fence order) rest = omega arith
first_of_layer (Print a) rest = omega arith
first_of_layer (If a one other) rest = λ i. max (1 + max (one.1 i) (other.1 i)) (depth rest)
first_of_layer (While a body) rest = λ i. max (1 + body.1 i) (depth rest)
first_of_layer (Call r function args) rest = omega arith

depth_first : (x : Stmt-F Stmt Block) (y : Shown) → plain_of y ≡ x → DepthFirst (roll-Stmt x)
depth_first x y is rest =
    ap depth (before_rest-out (roll-Stmt x) rest ∙ ap (λ (l : Stmt-F Stmt Block). statement_step (layer l) rest) (out-roll-Stmt x ∙ sym is)) ∙
    first_of_layer y rest ∙
    ap (λ (n : ℕ). max n (depth rest))
    (ap (λ (l : Stmt-F Stmt Block). depth_step (depth_layer l)) (is ∙ sym (out-roll-Stmt x)) ∙ sym (depth_of-out (roll-Stmt x)))

all_depth_first : (es : List ((s : Stmt) × DepthFirst s)) → depth (tree_of_all (map (λ e. e.0) es)) ≡ greatest (map depth_of (map (λ e. e.0) es))
all_depth_first [] = refl
all_depth_first (e ∷ es) = e.1 (tree_of_all (map (λ e. e.0) es)) ∙ ap (max (depth_of e.0)) (all_depth_first es)

folded-block : (b : Block) → folded b ≡ depth_of_all b.statements
folded-block b = fold_out-Block ℕ ℕ depth_step depth_block b

same_depth : (x : Block-F Stmt Block) (y : Block-F ((s : Stmt) × DepthFirst s) ((b : Block) × SameDepth b)) → map-Block ((s : Stmt) × DepthFirst s) ((b : Block) × SameDepth b) Stmt Block (λ e. e.0) (λ e. e.0) y ≡ x → SameDepth (roll-Block x)
same_depth x y is =
    let h = subst (λ (z : Block-F Stmt Block). depth (tree_of_all z.statements) ≡ greatest (map depth_of z.statements)) is (all_depth_first y.statements) in
    ap depth (tree_of-block (roll-Block x)) ∙ h ∙ sym (folded-block (roll-Block x))

pub depths_agree : (b : Block) → depth (tree_of b) ≡ depth_of_all b.statements
depths_agree b = ind-Block DepthFirst SameDepth depth_first same_depth b ∙ folded-block b
