use Rattle.std.proofs.Common.{◌≡◌, ◌++◌, map, drop}
use Rattle.il_syntax.specs.Statements.{head_of}
use Rattle.il_paths.specs.Tree.{tree_of, tree_of_all, heads_in}
use Rattle.tidy.proofs.judging.+heads.Given as goal

abbrev pub invariant-list_heads-loop-statement : goal.invariant-list_heads-loop-statement
invariant-list_heads-loop-statement l =
    map head_of l.heads.items ++ heads_in (tree_of_all (drop l.statement-index l.statement-items)) ≡ map head_of l.fn.heads.items ++ heads_in (tree_of l.block)
