use Rattle.std.proofs.Common.{Some, sym, ap, ◌∙◌, arith}
use Rattle.message_memory.specs.declared.message.Message.{Message}
use Rattle.indexed_memory.proofs.Finding.{found, not_found}
use Rattle.indexed_memory.proofs.sorted.find.Goals as goal

pub returns-then-k-places : goal.returns-then-k-places
returns-then-k-places c =
    sym (not_found c.args.pool.now c.args.places.now c.args.to c.count_below-k.result c.count_below-k.ensures c.requires.disjoint (λ l e. absurd (omega (arith, l, c.if-k-places.true))))

pub returns-then-found-to : goal.returns-then-found-to
returns-then-found-to c =
    let k = c.count_below-k.result in
    ap Some c.message-found.ensures
    ∙ sym (found c.args.pool.now c.args.places.now c.args.to k c.count_below-k.ensures c.requires.disjoint (omega (arith, c.if-k-places.false, c.count_below-k.ensures.most))
    (sym (ap (λ (m : Message). m.to) c.message-found.ensures) ∙ c.if-found-to.true))

pub returns : goal.returns
returns c =
    sym (not_found c.args.pool.now c.args.places.now c.args.to c.count_below-k.result c.count_below-k.ensures c.requires.disjoint
    (λ l e. c.if-found-to.false (ap (λ (m : Message). m.to) c.message-found.ensures ∙ e)))
