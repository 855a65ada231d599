-- A statement without blocks, as a leaf of a tree.
use Rattle.std.proofs.Common.{◌≡◌, [], ◌∷◌, sym, ap, ◌∙◌}
use Rattle.il_syntax.specs.declared.statement.Atom.{Atom}
use Rattle.il_syntax.specs.declared.statement.Stmt.{Stmt}
use Rattle.il_syntax.specs.declared.statement.Stmt as made
use Rattle.il_syntax.specs.declared.statement.Block.{Block}
use Rattle.il_paths.specs.Tree.{Leaf, leaf_statement, Tree, Empty, Then, before_rest, statements_of_tree, block_of}
use Rattle.il_paths.proofs.Callers.{Shape, plain_shape, if_shape, while_shape, shape_of, tree_of-block, block_of-tree_of, tree_of-block_of, before_rest-leaf}

-- what a statement alone puts tells the statement
alone : (s : Stmt) → statements_of_tree (before_rest s Empty) ≡ s ∷ []
alone s =
    let b : Block = record { statements = s ∷ [] } in
    ap statements_of_tree (sym (tree_of-block b)) ∙ ap (λ (c : Block). c.statements) (block_of-tree_of b)

first_is : {s t : Stmt} → s ∷ [] ≡ t ∷ [] → s ≡ t
first_is {s} {t} e = cc

-- a statement without blocks is that of a leaf
pub leaf_of : (s : Stmt) → ((a : Atom) (yes_block no_block : Block) → s ≡ made.If a yes_block no_block → ⊥) → ((a : Atom) (body : Block) → s ≡ made.While a body → ⊥) → (leaf : Leaf) × (s ≡ leaf_statement leaf)
leaf_of s not_if not_while = go (shape_of s)
  where
    go : Shape (before_rest s) → (leaf : Leaf) × (s ≡ leaf_statement leaf)
    go (plain_shape leaf f) = (leaf, first_is (sym (alone s) ∙ ap statements_of_tree (f Empty)))
    go (if_shape test one other f) = absurd (not_if test (block_of one) (block_of other) (first_is (sym (alone s) ∙ ap statements_of_tree (f Empty))))
    go (while_shape test body f) = absurd (not_while test (block_of body) (first_is (sym (alone s) ∙ ap statements_of_tree (f Empty))))
