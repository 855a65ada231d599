use Rattle.simulation.proofs.Conditions.{lifted_along}
use Rattle.simulation.proofs.lifting.lift_chain.Goals as goal
use Rattle.validator.proofs.Callers.{if_ok}

pub returns : goal.returns
returns g c =
    let x = c.requires.accepted in
    if_ok c.lift_over-2.result _ _
    (λ o p. lifted_along c.args.c.now.source c.args.c.now.stored c.args.c.now.introduced c.args.c.now.loaded c.args.c.now.undead c.args.j.now _ _ x.stored x.introduced x.loaded x.undead c.in_ok-of_introduced.ensures p)
    c.lift_over-2.ensures
