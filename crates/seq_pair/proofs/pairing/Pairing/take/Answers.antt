use Rattle.std.proofs.Common.{refl, ap}
use Rattle.seq_semantics.specs.Seq.{Seq}
use Rattle.seq_pair.proofs.Entry.{pair_kept}
use Rattle.seq_pair.proofs.pairing.Pairing.take.Goals as goal

pub returns-then-is_shared-clause-pair : goal.returns-then-is_shared-clause-pair
returns-then-is_shared-clause-pair c =
    pair_kept c.args.p.now c.args.q.now c.args.f c.args.self.now _ c.requires.pair (c.take.ensures.program c.args.q.now c.requires.pair.target) (c.take-then-is_shared.ensures.program c.args.p.now c.requires.pair.source) refl
    (ap (λ (z : Seq). z.frame) (c.take.ensures.state c.args.q.now)) (ap (λ (z : Seq). z.frame) (c.take-then-is_shared.ensures.state c.args.p.now))

pub returns-else-is_shared-clause-pair : goal.returns-else-is_shared-clause-pair
returns-else-is_shared-clause-pair c = pair_kept c.args.p.now c.args.q.now c.args.f c.args.self.now _ c.requires.pair (c.take.ensures.program c.args.q.now c.requires.pair.target) c.requires.pair.source refl (ap (λ (z : Seq). z.frame) (c.take.ensures.state c.args.q.now)) refl
