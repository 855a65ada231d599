use Rattle.std.proofs.Common.{◌≡◌, ◌+◌, ℕ, List, [], ◌∷◌, ◌++◌, ap, sym, subst, ◌∙◌, arith}
use Rattle.rand_pcg.specs.Lcg.{Lcg}
use Rattle.chooser.specs.Draws.{generator, drawn}
use Rattle.litmus.specs.Sampled.{order_stream}
use Rattle.litmus.proofs.Orders.{HasGiven, gives_more, turns, turns_more}
use Rattle.litmus.proofs.order.drawn_order.Goals as goal

pub loop-turn-preserved : goal.loop-turn-preserved
loop-turn-preserved c =
    let h = c.loop-turn.invariant in
    let test = c.loop-turn-test.true in
    let first = generator c.args.seed order_stream in
    record {
      few = omega (arith, test);
      given = subst (HasGiven first (c.loop-turn._turn + 1)) (sym c.pick.ensures.next) (gives_more first c.loop-turn.draw c.loop-turn._turn h.given);
      turns = turns_more c.args.seed c.args.threads c.loop-turn._turn c.loop-turn.draw c.loop-turn.order.items c.push.new.self.items h.given h.turns
          (c.in_ok-push.ensures.items ∙ ap (λ (x : ℕ). c.loop-turn.order.items ++ x ∷ []) (c.pick.ensures.answer ∙ ap (drawn c.loop-turn.draw) c.from.ensures));
    }

pub returns : goal.returns
returns c =
    let h = c.loop-turn.invariant in
    let test = c.loop-turn-test.false in
    let all : c.loop-turn._turn ≡ 256 = omega (arith, test, h.few) in
    h.turns ∙ ap (turns c.args.seed c.args.threads) all
