use Rattle.std.proofs.Common.{arith, sym, ◌∙◌}
use Rattle.il_paths.specs.Tree.{tree_of}
use Rattle.flow_facts.proofs.Settled.{round_long, round_lighter, round_still_above, round_exact}
use Rattle.flow_facts.proofs.walked.settle.Goals as goal

pub returns-then-left-total : goal.returns-then-left-total
returns-then-left-total c =
    let i = c.loop-total.invariant in
    round_exact (tree_of c.args.block.now) c.args.kind c.args.pair.now c.loop-total.levels c.round_block.new.levels c.round_block.ensures.kept i.long i.above (sym c.total_rank-left.ensures ∙ c.if-left-total.true ∙ i.all)

pub loop-total-smaller : goal.loop-total-smaller
loop-total-smaller c =
    let i = c.loop-total.invariant in
    let h = round_lighter (tree_of c.args.block.now) c.args.kind c.args.pair.now c.loop-total.levels c.round_block.new.levels c.round_block.ensures.kept i.long in
    omega (arith, h, c.total_rank-left.ensures, i.all, c.if-left-total.false)

pub loop-total-preserved : goal.loop-total-preserved
loop-total-preserved c =
    let i = c.loop-total.invariant in
    record {
      long = round_long (tree_of c.args.block.now) c.args.kind c.args.pair.now c.loop-total.levels c.round_block.new.levels c.round_block.ensures.kept i.long;
      above = round_still_above (tree_of c.args.block.now) c.args.kind c.args.pair.now c.loop-total.levels c.round_block.new.levels c.round_block.ensures.kept i.long i.above;
      all = c.total_rank-left.ensures;
    }
