use Rattle.std.proofs.Common.{◌≡◌, ◌+◌, drop}
use Rattle.il_paths.specs.Tree.{tree_of, tree_of_all, sites_of}
use Rattle.rewriting.specs.Puts.{puts}
use Rattle.tidy.specs.Propagated.{propagated_tree}
use Rattle.tidy.specs.Least.{least_at}
use Rattle.tidy.proofs.propagate.+rewrites.Given as goal

abbrev pub invariant-replace_block-loop-statement : goal.invariant-replace_block-loop-statement
invariant-replace_block-loop-statement l =
    let rest = tree_of_all (drop l.statement-index l.statement-items) in
    record {
      same : puts l.kept (propagated_tree (least_at l.rows) l.at rest) ≡ propagated_tree (least_at l.rows) l.site (tree_of l.block);
      place : l.at + sites_of rest ≡ l.site + sites_of (tree_of l.block);
    }
