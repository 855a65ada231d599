use Rattle.std.proofs.Common.{◌≡◌, ◌≤◌}
use Rattle.chooser.specs.Draws.{generator}
use Rattle.litmus.specs.Sampled.{order_stream}
use Rattle.litmus.proofs.Orders.{HasGiven, turns}
use Rattle.litmus.proofs.order.drawn_order.Given as goal

abbrev pub invariant-loop-turn : goal.invariant-loop-turn
invariant-loop-turn l = record {
  few : l._turn ≤ 256;
  given : HasGiven (generator l.seed order_stream) l._turn l.draw;
  turns : l.order.items ≡ turns l.seed l.threads l._turn;
}
