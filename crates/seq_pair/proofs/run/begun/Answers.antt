use Rattle.std.proofs.Common.{◌≡◌, IfOk, subst}
use Rattle.seq_semantics.specs.Seq.{Seq}
use Rattle.seq_semantics.specs.Held.{seq_in}
use Rattle.seq_pair.proofs.Lists.{begun_of_zeros}
use Rattle.seq_pair.proofs.run.begun.Goals as goal

pub returns-clause-state : goal.returns-clause-state
returns-clause-state c = subst (λ (z : Seq). IfOk c.start.result (λ s. seq_in c.args.p.now s ≡ z)) (begun_of_zeros c.args.p.now c.args.f c.parameter_count.result) c.start.ensures.state
