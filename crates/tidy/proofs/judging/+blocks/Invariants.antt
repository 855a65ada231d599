use Rattle.std.proofs.Common.{◌≡◌, ◌≤◌, length, drop}
use Rattle.il_paths.specs.Tree.{tree_of, tree_of_all}
use Rattle.tidy.specs.Decided.{same_blocks}
use Rattle.tidy.proofs.judging.+blocks.Given as goal

abbrev pub invariant-same_blocks-loop-statement : goal.invariant-same_blocks-loop-statement
invariant-same_blocks-loop-statement l =
    record {
      same : same_blocks (tree_of_all (drop l.statement-index l.statement-items)) (tree_of_all (drop l.at l.others)) ≡ same_blocks (tree_of l.block) (tree_of l.other);
      place : l.at ≡ l.statement-index;
      few : l.at ≤ length l.others;
    }
