use Rattle.std.proofs.Common.{◌≡◌, ◌++◌, drop}
use Rattle.il_paths.specs.Tree.{tree_of, tree_of_all}
use Rattle.validator.specs.Told.{needs_of}
use Rattle.validator.proofs.told.+needs.Given as goal

abbrev pub invariant-list_needs-loop-statement : goal.invariant-list_needs-loop-statement
invariant-list_needs-loop-statement l =
    l.needs.items ++ needs_of (tree_of_all (drop l.statement-index l.statement-items)) ≡ l.fn.needs.items ++ needs_of (tree_of l.block)
