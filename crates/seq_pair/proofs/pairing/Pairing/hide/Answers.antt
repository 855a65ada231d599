use Rattle.std.proofs.Common.{refl, ap}
use Rattle.seq_semantics.specs.Seq.{Seq}
use Rattle.seq_pair.proofs.Entry.{pair_kept}
use Rattle.seq_pair.proofs.pairing.Pairing.hide.Goals as goal

pub returns-clause-pair : goal.returns-clause-pair
returns-clause-pair c = pair_kept c.args.p.now c.args.q.now c.args.f c.args.self.now _ c.requires.pair c.requires.pair.target (c.take.ensures.program c.args.p.now c.requires.pair.source) refl refl (ap (λ (z : Seq). z.frame) (c.take.ensures.state c.args.p.now))
