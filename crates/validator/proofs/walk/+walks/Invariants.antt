use Rattle.std.proofs.Common.{◌≡◌, ◌≤◌, length, drop}
use Rattle.il_paths.specs.Tree.{tree_of, tree_of_all}
use Rattle.validator.specs.Walk.{walk}
use Rattle.validator.proofs.walk.+walks.Given as goal

abbrev pub invariant-walk_block-loop-i : goal.invariant-walk_block-loop-i
invariant-walk_block-loop-i l = record {
  same : walk l.new (tree_of l.target) (tree_of l.source) l.fn.parts.items ≡ walk l.new (tree_of_all (drop l.i l.statements)) (tree_of_all (drop l.next l.partners)) l.parts.items;
  within : l.next ≤ length l.partners;
}
