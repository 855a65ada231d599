-- Statements put before a tree, as walks that copy a block keep it. No public clause cites this file.
use Rattle.std.specs.Prelude.{List, [], ◌∷◌}
use Rattle.il_syntax.specs.declared.statement.Stmt.{Stmt}
use Rattle.il_paths.specs.Tree.{Tree, before_rest}

abbrev pub puts : List Stmt → Tree → Tree
puts [] rest = rest
puts (s ∷ ss) rest = before_rest s (puts ss rest)
