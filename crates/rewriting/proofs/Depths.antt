-- How deep the blocks of a tree lie.
use Rattle.std.proofs.Common.{◌≡◌, ℕ, ◌+◌, max, List, [], ◌∷◌, map, refl, sym, ap, ◌∙◌, subst}
use Rattle.il_syntax.specs.declared.statement.Stmt.{Stmt, roll-Stmt, out-Stmt, out-roll-Stmt, map-Stmt, fold_out-Stmt}
use Rattle.il_syntax.specs.declared.statement.Stmt.TheFolds.{ind-Block, map-Block}
use Rattle.il_syntax.specs.declared.statement.Stmt.TheOpen.{Stmt-F, Block-F, Skip, Copy, Compute, Load, Store, AtomicLoad, AtomicStore, Update, Fence, Print, If, While, Call}
use Rattle.il_syntax.specs.declared.statement.Block.{Block, roll-Block, fold-Block, fold_out-Block}
use Rattle.il_syntax.specs.Statements.{depth_step, depth_block, depth_of, depth_of_all, greatest}
use Rattle.il_paths.specs.Tree.{Leaf, Tree, Empty, Then, IfThen, WhileThen, statement_step, before_rest, tree_of, tree_of_all, sites_of}
use Rattle.il_paths.proofs.Callers.{layer, before_rest-out, tree_of-block}
use Rattle.rewriting.specs.Changed.{changed_tree}

abbrev pub depth_in : Tree → ℕ
depth_in Empty = 0
depth_in (Then leaf rest) = max 0 (depth_in rest)
depth_in (IfThen a yes_block no_block rest) = max (1 + max (depth_in yes_block) (depth_in no_block)) (depth_in rest)
depth_in (WhileThen a body rest) = max (1 + depth_in body) (depth_in rest)

abbrev folded : Block → ℕ
folded = fold-Block ℕ ℕ depth_step depth_block

abbrev Deepens : Stmt → Type 0
Deepens s = (rest : Tree) → depth_in (before_rest s rest) ≡ max (depth_of s) (depth_in rest)

abbrev SameDepth : Block → Type 0
SameDepth b = depth_in (tree_of b) ≡ folded b

abbrev Shown : Type 0
Shown = Stmt-F ((s : Stmt) × Deepens s) ((b : Block) × SameDepth b)

abbrev plain_of : Shown → Stmt-F Stmt Block
plain_of = map-Stmt ((s : Stmt) × Deepens s) ((b : Block) × SameDepth b) Stmt Block (λ e. e.0) (λ e. e.0)

abbrev depths_layer : Stmt-F Stmt Block → Stmt-F ℕ ℕ
depths_layer = map-Stmt Stmt Block ℕ ℕ depth_of folded

depth_of-out : (s : Stmt) → depth_of s ≡ depth_step (depths_layer (out-Stmt s))
depth_of-out s = fold_out-Stmt ℕ ℕ depth_step depth_block s

first_of_layer : (y : Shown) (rest : Tree) → depth_in (statement_step (layer (plain_of y)) rest) ≡ max (depth_step (depths_layer (plain_of y))) (depth_in rest)
first_of_layer Skip rest = refl
first_of_layer (Copy r a) rest = refl
first_of_layer (Compute r op a b) rest = refl
first_of_layer (Load r x) rest = refl
first_of_layer (Store x a) rest = refl
first_of_layer (AtomicLoad r order y) rest = refl
first_of_layer (AtomicStore order y a) rest = refl
first_of_layer (Update r order y kind) rest = refl
first_of_layer (Fence order) rest = refl
first_of_layer (Print a) rest = refl
first_of_layer (If a one other) rest = λ i. max (1 + max (one.1 i) (other.1 i)) (depth_in rest)
first_of_layer (While a body) rest = λ i. max (1 + body.1 i) (depth_in rest)
first_of_layer (Call r function args) rest = refl

deepens : (x : Stmt-F Stmt Block) (y : Shown) → plain_of y ≡ x → Deepens (roll-Stmt x)
deepens x y is rest =
    ap depth_in (before_rest-out (roll-Stmt x) rest ∙ ap (λ (l : Stmt-F Stmt Block). statement_step (layer l) rest) (out-roll-Stmt x ∙ sym is)) ∙
    first_of_layer y rest ∙
    ap (λ n. max n (depth_in rest))
    (ap (λ (l : Stmt-F Stmt Block). depth_step (depths_layer l)) (is ∙ sym (out-roll-Stmt x)) ∙ sym (depth_of-out (roll-Stmt x)))

all_deepen : (es : List ((s : Stmt) × Deepens s)) → depth_in (tree_of_all (map (λ e. e.0) es)) ≡ greatest (map depth_of (map (λ e. e.0) es))
all_deepen [] = refl
all_deepen (e ∷ es) = e.1 (tree_of_all (map (λ e. e.0) es)) ∙ ap (max (depth_of e.0)) (all_deepen es)

folded-block : (b : Block) → folded b ≡ depth_of_all b.statements
folded-block b = fold_out-Block ℕ ℕ depth_step depth_block b

same_depth : (x : Block-F Stmt Block) (y : Block-F ((s : Stmt) × Deepens s) ((b : Block) × SameDepth b)) → map-Block ((s : Stmt) × Deepens s) ((b : Block) × SameDepth b) Stmt Block (λ e. e.0) (λ e. e.0) y ≡ x → SameDepth (roll-Block x)
same_depth x y is =
    let h = subst (λ (z : Block-F Stmt Block). depth_in (tree_of_all z.statements) ≡ greatest (map depth_of z.statements)) is (all_deepen y.statements) in
    ap depth_in (tree_of-block (roll-Block x)) ∙ h ∙ sym (folded-block (roll-Block x))

-- a block's tree lies as deep as the block
pub depths_agree : (b : Block) → depth_in (tree_of b) ≡ depth_of_all b.statements
depths_agree b = ind-Block Deepens SameDepth deepens same_depth b ∙ folded-block b

-- and a change in place keeps it so
pub depth_stays : (changed : ℕ → Leaf → Leaf) (n : ℕ) (t : Tree) → depth_in (changed_tree changed n t) ≡ depth_in t
depth_stays changed n Empty = refl
depth_stays changed n (Then leaf rest) = ap (max 0) (depth_stays changed (n + 1) rest)
depth_stays changed n (IfThen a yes_block no_block rest) =
    λ i. max (1 + max (depth_stays changed (n + 1) yes_block i) (depth_stays changed (n + 1 + sites_of yes_block) no_block i)) (depth_stays changed (n + 1 + sites_of yes_block + sites_of no_block) rest i)
depth_stays changed n (WhileThen a body rest) =
    λ i. max (1 + depth_stays changed (n + 1) body i) (depth_stays changed (n + 1 + sites_of body) rest i)
