use Rattle.std.proofs.Common.{◌≡◌, None, sym, ◌∙◌, arith}
use Rattle.message_memory.specs.Candidates.{choices_from}
use Rattle.indexed_memory.specs.Sorted.{history_of}
use Rattle.indexed_memory.proofs.Nth.{some_above, some_choice, nth_none}
use Rattle.indexed_memory.proofs.gaps.nth.Goals as goal

pub nth_newest-requires-clause-some : goal.nth_newest-requires-clause-some
nth_newest-requires-clause-some c = some_above c.args.pool.now c.args.places.now c.args.seen c.args.a.now c.count_below-low.result c.count_below-low.ensures c.args.k c.requires.in_range

pub loop-j-init : goal.loop-j-init
loop-j-init c =
    let some = some_above c.args.pool.now c.args.places.now c.args.seen c.args.a.now c.count_below-low.result c.count_below-low.ensures c.args.k c.requires.in_range in
    record { rest = c.in-Err.ensures.left; within = omega (arith, some); least = omega (arith, some) }

pub unreachable-requires : goal.unreachable-requires
unreachable-requires c =
    let over : c.loop-j.j ≡ c.count_below-low.result = omega (arith, c.loop-j-test.false, c.loop-j.invariant.least) in
    some_choice (choices_from c.args.seen c.args.a.now None (history_of c.args.pool.now c.args.places.now)) c.args.k c.requires.in_range
    (sym c.loop-j.invariant.rest ∙ nth_none c.args.pool.now c.args.places.now c.args.seen c.args.a.now c.count_below-low.result c.count_below-low.ensures c.loop-j.j c.loop-j.left over)
