use Rattle.std.proofs.Common.{◌+◌, arith}
use Rattle.outcome_moves.proofs.Using.{no_entry, used_one, used_few}
use Rattle.outcome_moves.proofs.standing.used_by.Goals as goal

pub steps_of-used-requires : goal.steps_of-used-requires
steps_of-used-requires c =
    let e = used_one c.args.entries.now c.loop-k.k no_entry c.args.thread c.loop-k-test.true in
    let f = used_few c.args.entries.now (c.loop-k.k + 1) c.args.thread in
    omega (arith, e, f, c.requires)

pub overflow_add-used : goal.overflow_add-used
overflow_add-used c =
    let e = used_one c.args.entries.now c.loop-k.k no_entry c.args.thread c.loop-k-test.true in
    let f = used_few c.args.entries.now (c.loop-k.k + 1) c.args.thread in
    omega (arith, e, f, c.requires, c.loop-k.invariant, c.steps_of-used.ensures)

pub loop-k-preserved : goal.loop-k-preserved
loop-k-preserved c =
    let e = used_one c.args.entries.now c.loop-k.k no_entry c.args.thread c.loop-k-test.true in
    omega (arith, e, c.loop-k.invariant, c.steps_of-used.ensures)
