use Rattle.std.proofs.Common.{◌≡◌, ◌+◌, drop}
use Rattle.il_paths.specs.Tree.{tree_of, tree_of_all, sites_of}
use Rattle.rewriting.specs.Changed.{changed_tree}
use Rattle.rewriting.specs.Puts.{puts}
use Rattle.rewriting.proofs.rewrite.+rewrites.Given as goal

abbrev pub invariant-rewrite_block-loop-statement : goal.invariant-rewrite_block-loop-statement
invariant-rewrite_block-loop-statement g l =
    let rest = tree_of_all (drop l.statement-index l.statement-items) in
    record {
      same : puts l.kept (changed_tree (g.R.Rewrite.changed l.rewrite) l.at rest) ≡ changed_tree (g.R.Rewrite.changed l.rewrite) l.site (tree_of l.block);
      place : l.at + sites_of rest ≡ l.site + sites_of (tree_of l.block);
    }
