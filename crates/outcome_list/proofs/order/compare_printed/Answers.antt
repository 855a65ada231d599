use Rattle.std.proofs.Common.{arith}
use Rattle.std.specs.Ordering.{int_cmp}
use Rattle.std.specs.Cmp.Lexicographic.{slice_cmp}
use Rattle.outcome_list.proofs.Comparing.{first_ends, second_ends}
use Rattle.outcome_list.proofs.order.compare_printed.Goals as goal

pub returns-then-k-b : goal.returns-then-k-b
returns-then-k-b c = second_ends (λ v w. slice_cmp int_cmp v.items w.items) c.args.a.now c.args.b.now c.loop-k.k c.loop-k-test.true c.if-k-b.true c.loop-k.invariant.same

pub returns-then-a-b : goal.returns-then-a-b
returns-then-a-b c =
    first_ends (λ v w. slice_cmp int_cmp v.items w.items) c.args.a.now c.args.b.now c.loop-k.k (omega (arith, c.loop-k-test.false))
    (omega (arith, c.loop-k.invariant.first, c.loop-k-test.false, c.if-a-b.true)) c.loop-k.invariant.same
