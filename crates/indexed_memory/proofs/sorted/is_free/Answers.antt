use Rattle.std.proofs.Common.{length, sym, ap, arith}
use Rattle.message_memory.specs.declared.message.Message.{Message}
use Rattle.indexed_memory.proofs.Finding.{all_free, free_at, taken_at}
use Rattle.indexed_memory.proofs.sorted.is_free.Goals as goal

pub returns-then-to-from : goal.returns-then-to-from
returns-then-to-from c =
    sym (all_free c.args.pool.now c.args.places.now c.args.from c.args.to (length c.args.places.now) (λ k l. omega (arith, c.if-to-from.true)))

pub returns-then-k-places : goal.returns-then-k-places
returns-then-k-places c =
    sym (free_at c.args.pool.now c.args.places.now c.args.from c.args.to c.count_below-k.result c.count_below-k.ensures c.requires.disjoint (λ l. absurd (omega (arith, l, c.if-k-places.true))))

pub returns-then-message-to : goal.returns-then-message-to
returns-then-message-to c =
    let begin = ap (λ (m : Message). m.from) c.message.ensures in
    sym (taken_at c.args.pool.now c.args.places.now c.args.from c.args.to c.count_below-k.result (omega (arith, c.if-to-from.false)) c.count_below-k.ensures c.requires.disjoint
    (omega (arith, c.if-k-places.false, c.count_below-k.ensures.most)) (omega (arith, begin, c.if-message-to.true)))

pub returns : goal.returns
returns c =
    let begin = ap (λ (m : Message). m.from) c.message.ensures in
    sym (free_at c.args.pool.now c.args.places.now c.args.from c.args.to c.count_below-k.result c.count_below-k.ensures c.requires.disjoint (λ l. omega (arith, begin, c.if-message-to.false)))
