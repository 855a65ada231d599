use Rattle.std.proofs.Common.{◌≡◌, true, false, arith}
use Rattle.load_hoist.proofs.PutLoads.{not_wanted, wanted_so}
use Rattle.load_hoist.proofs.wanted.is_wanted.Goals as goal

pub returns-then-not-some_loads : goal.returns-then-not-some_loads
returns-then-not-some_loads c =
    let none : c.some_loads.result ≡ false = grind (arith, c.if-not-some_loads.true) in
    not_wanted c.args.x c.args.body.now c.as_slice-statements.result.now c.as_slice-statements.ensures c.some_loads.result c.some_loads.ensures none

pub returns : goal.returns
returns c =
    let some : c.some_loads.result ≡ true = grind (arith, c.if-not-some_loads.false) in
    wanted_so c.args.x c.args.body.now c.as_slice-statements.result.now c.as_slice-statements.ensures c.some_loads.result c.some_loads.ensures c.some_forbids.result c.some_forbids.ensures some
