use Rattle.std.proofs.Common.{IsTrue, nat_lt, length, subst, sym, arith}
use Rattle.litmus.proofs.Orders.{are_served}
use Rattle.litmus.proofs.run.walked.Goals as goal

pub walk-requires-clause-served : goal.walk-requires-clause-served
walk-requires-clause-served g c κs within = λ i below.
    subst (λ draws. IsTrue (nat_lt i (length draws))) (sym c.in_ok-draws.ensures) (are_served _ c.len.result i (omega (arith, below, c.len.ensures)))
