use Rattle.simulation.specs.Chain.{lift_or}
use Rattle.simulation.proofs.Conditions.{lifted_twice}
use Rattle.simulation.proofs.lifting.lift_over.Goals as goal
use Rattle.validator.proofs.Callers.{if_ok}

pub returns : goal.returns
returns g c =
    if_ok c.lift_further-3.result _ _
    (λ o p. lifted_twice c.args.first.now c.args.middle.now c.args.last.now (lift_or c.args.j.now c.args.so_far) _ _ c.requires.first c.requires.second c.in_ok-of_middle.ensures p)
    c.lift_further-3.ensures
