use Rattle.std.proofs.Common.{sym, subst}
use Rattle.std.proofs.lemmas.Bool.{false≢true}
use Rattle.views.specs.ThreadView.{ThreadView, IsViewBelow}
use Rattle.views.proofs.view.View.is_below.Goals as goal

pub returns-then-not-is_below-2 : goal.returns-then-not-is_below-2
returns-then-not-is_below-2 c = (
  λ t. absurd (false≢true t),
  λ (h : IsViewBelow c.args.self.now c.args.other.now).
      let inside = subst (λ (v : ThreadView). IsViewBelow v (record { cur = c.other.inside.cur; got = c.other.inside.got; rel = c.other.inside.rel })) (sym c.self.view_is)
      (subst (λ (w : ThreadView). IsViewBelow c.args.self.now w) (sym c.other.view_is) h) in
      c.if-not-is_below-2.ensures.1 inside.got,
)
