-- Statements put before a tree.
use Rattle.std.proofs.Common.{◌≡◌, List, [], ◌∷◌, ◌++◌, refl, ap}
use Rattle.il_syntax.specs.declared.statement.Stmt.{Stmt}
use Rattle.il_paths.specs.Tree.{Tree, Empty, before_rest, tree_of_all}
use Rattle.rewriting.specs.Puts.{puts}

pub puts-push : (ss : List Stmt) (s : Stmt) (rest : Tree) → puts (ss ++ s ∷ []) rest ≡ puts ss (before_rest s rest)
puts-push [] s rest = refl
puts-push (t ∷ ss) s rest = ap (before_rest t) (puts-push ss s rest)

pub puts-empty : (ss : List Stmt) → puts ss Empty ≡ tree_of_all ss
puts-empty [] = refl
puts-empty (s ∷ ss) = ap (before_rest s) (puts-empty ss)
