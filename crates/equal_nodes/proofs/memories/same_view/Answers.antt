use Rattle.std.proofs.Common.{sym}
use Rattle.equal_nodes.proofs.Views.{view_equal, view_below}
use Rattle.equal_nodes.proofs.memories.same_view.Goals as goal

pub returns-then-is_below : goal.returns-then-is_below
returns-then-is_below c =
    let v = c.args.a.now in
    let w = c.args.b.now in
    let back = c.is_below-then-is_below.ensures in
    (λ t. view_equal v w c.requires.first c.requires.second c.requires.places (c.is_below.ensures.0 c.if-is_below.true) (back.0 t), λ e. back.1 (view_below w v (sym e)))
