use Rattle.std.proofs.Common.{◌≡◌, Bool, true, sym, subst}
use Rattle.std.specs.Prelude.{◌↔◌}
use Rattle.validator.specs.Shape.{SameShape}
use Rattle.validator.proofs.ShapeLaws.{shape_is}
use Rattle.validator.proofs.shape.same_shape.Goals as goal

pub returns : goal.returns
returns c =
    subst (λ (b : Bool). (b ≡ true) ↔ SameShape c.args.p.now c.args.q.now) (sym c.same_parts.ensures) (shape_is c.args.p.now c.args.q.now)
