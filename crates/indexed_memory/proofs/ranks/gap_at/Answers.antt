use Rattle.std.proofs.Common.{Some, sym, ap, ◌∙◌, arith}
use Rattle.indexed_memory.proofs.Telling.{gap_is, last_gap}
use Rattle.indexed_memory.proofs.ranks.gap_at.Goals as goal

pub returns-then-k-places : goal.returns-then-k-places
returns-then-k-places c = sym (last_gap c.args.pool.now c.args.places.now c.args.k (omega (arith, c.if-k-places.true, c.requires.there)))

pub returns : goal.returns
returns c = ap Some c.gap_after.ensures ∙ sym (gap_is c.args.pool.now c.args.places.now c.args.k (omega (arith, c.if-k-places.false, c.requires.there)))
