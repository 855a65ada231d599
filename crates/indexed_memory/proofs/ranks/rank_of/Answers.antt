use Rattle.std.proofs.Common.{sym, ap, ◌∙◌, arith}
use Rattle.message_memory.specs.declared.message.Message.{Message}
use Rattle.indexed_memory.proofs.Telling.{rank_at, rank_between}
use Rattle.indexed_memory.proofs.ranks.rank_of.Goals as goal

pub returns-then-k-places : goal.returns-then-k-places
returns-then-k-places c = rank_between c.args.pool.now c.args.places.now c.args.to c.count_below-k.result c.requires c.count_below-k.ensures (λ l e. absurd (omega (arith, l, c.if-k-places.true)))

pub returns-then-message-to : goal.returns-then-message-to
returns-then-message-to c =
    rank_at c.args.pool.now c.args.places.now c.args.to c.count_below-k.result c.count_below-k.ensures (omega (arith, c.if-k-places.false, c.count_below-k.ensures.most))
    (sym (ap (λ (m : Message). m.to) c.message.ensures) ∙ c.if-message-to.true)

pub returns : goal.returns
returns c = rank_between c.args.pool.now c.args.places.now c.args.to c.count_below-k.result c.requires c.count_below-k.ensures (λ l e. c.if-message-to.false (ap (λ (m : Message). m.to) c.message.ensures ∙ e))
