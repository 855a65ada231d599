use Rattle.std.proofs.Common.{◌≡◌, drop}
use Rattle.il_paths.specs.Tree.{tree_of_all}
use Rattle.validator.specs.Walk.{before_loop}
use Rattle.validator.proofs.walk.before_loop.Given as goal

abbrev pub invariant-loop-statement : goal.invariant-loop-statement
invariant-loop-statement l = before_loop l.new (tree_of_all (drop l.statement-index l.statements)) ≡ before_loop l.new (tree_of_all l.statements)
