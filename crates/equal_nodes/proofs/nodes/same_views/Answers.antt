use Rattle.std.proofs.Common.{sym, refl, ◌∙◌, arith}
use Rattle.std.proofs.lemmas.List.{ext_get_or}
use Rattle.views.specs.ThreadView.{no_view}
use Rattle.equal_nodes.proofs.nodes.same_views.Goals as goal

pub returns : goal.returns
returns c =
    let a = c.args.a.now in
    let b = c.args.b.now in
    (λ _. ext_get_or no_view a.views b.views (c.requires.first_views ∙ sym c.requires.second_views) (λ i l. c.loop-thread.invariant i (omega (arith, l, c.requires.first_views, c.loop-thread-test.false))), λ _. refl)
