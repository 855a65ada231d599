use Rattle.std.proofs.Common.{true, false, sym, subst}
use Rattle.views.specs.ThreadView.{IsOrdered}
use Rattle.views.proofs.ThreadViewLemmas.{heard_ordered}
use Rattle.views.proofs.view.View.hear.Goals as goal

pub invariant_of-self : goal.invariant_of-self
invariant_of-self c =
    subst IsOrdered (λ i. record { cur = sym c.join-then-acquire.ensures.value i; got = sym c.join.ensures.value i; rel = c.self.inside.rel })
    (heard_ordered (record { cur = c.self.inside.cur; got = c.self.inside.got; rel = c.self.inside.rel }) c.args.m.now true c.self.invariant)

pub invariant_of-self-else-acquire : goal.invariant_of-self-else-acquire
invariant_of-self-else-acquire c =
    subst IsOrdered (λ i. record { cur = c.self.inside.cur; got = sym c.join.ensures.value i; rel = c.self.inside.rel })
    (heard_ordered (record { cur = c.self.inside.cur; got = c.self.inside.got; rel = c.self.inside.rel }) c.args.m.now false c.self.invariant)
