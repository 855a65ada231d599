use Rattle.std.proofs.Common.{◌≡◌, drop}
use Rattle.il_paths.specs.Tree.{tree_of, tree_of_all}
use Rattle.rewriting.specs.Puts.{puts}
use Rattle.load_hoist.specs.Introduced.{introduced}
use Rattle.load_hoist.specs.Taken.{IsTaken}
use Rattle.load_hoist.proofs.hoist.+hoists.Given as goal

abbrev pub invariant-hoist_block-loop-statement : goal.invariant-hoist_block-loop-statement
invariant-hoist_block-loop-statement l =
    let rest = tree_of_all (drop l.statement-index l.statement-items) in
    let whole = introduced l.na l.names (tree_of l.block) l.inside l.fn.growing.growth in
    record {
      kept : puts l.kept (introduced l.na l.names rest l.inside l.growing.growth).0 ≡ whole.0;
      taken : IsTaken l.names l.growing;
      growth : (introduced l.na l.names rest l.inside l.growing.growth).1 ≡ whole.1;
    }
