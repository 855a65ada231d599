use Rattle.simulation.proofs.Conditions.{accepted_target}
use Rattle.simulation.proofs.lifting.is_accepted.Goals as goal
use Rattle.validator.proofs.Callers.{if_ok}

pub returns : goal.returns
returns g c =
    if_ok c.are_accepted.result _ _
    (λ yes h t. accepted_target c.args.source.now c.args.target.now c.as_slice.result.now c.as_slice-2.result.now c.as_slice.ensures c.as_slice-2.ensures c.requires.source c.requires.target (c.same_shape.ensures.0 c.if-not-same_shape.false) (h t))
    c.are_accepted.ensures
