use Rattle.std.proofs.Common.{◌≡◌, ◌<◌, ◌+◌, ◌^◌, ◌++◌, length, length-append, sym, ap, ◌∙◌, arith}
use Rattle.load_hoist.specs.Introduced.{next_number}
use Rattle.load_hoist.proofs.FreeNames.{next_few, taken_after}
use Rattle.load_hoist.proofs.hoist.put_load.Goals as goal

pub overflow_add-growing-2 : goal.overflow_add-growing-2
overflow_add-growing-2 c =
    let most = next_few c.args.names.now c.args.growing.now.growth c.requires.may c.requires.few in
    let e = c.in_ok-new.ensures.number in
    omega (arith, most, e)

pub returns-clause-taken : goal.returns-clause-taken
returns-clause-taken c =
    taken_after c.args.names.now c.args.growing.now.growth c.push.new.self c.in_ok-new.new.name c.in_ok-new.new.number c.in_ok-new.ensures.number c.in_ok-new.ensures.name c.in_ok-push.ensures.ok
