use Rattle.std.proofs.Common.{[], sym, refl, arith}
use Rattle.std.proofs.lemmas.List.{ext_get_or}
use Rattle.equal_nodes.proofs.memories.same_messages.Goals as goal

pub returns : goal.returns
returns c =
    let m = c.args.a.now.memory in
    let n = c.args.b.now.memory in
    (λ _. ext_get_or [] m.atomic n.atomic (sym c.requires.beside.atomic) (λ y l. c.loop-y.invariant y (omega (arith, l, c.requires.locations, c.loop-y-test.false))), λ _. refl)
