use Rattle.std.proofs.Common.{refl, ap}
use Rattle.seq_semantics.specs.Seq.{Seq}
use Rattle.seq_pair.specs.Pair.{register_count}
use Rattle.seq_pair.specs.Pairing.{pair_in}
use Rattle.seq_pair.proofs.Heard.{target_hears, source_hears, heard_first}
use Rattle.seq_pair.proofs.Entry.{pair_kept}
use Rattle.seq_pair.proofs.pairing.Pairing.gain.Goals as goal

pub gain-requires-clause-hears : goal.gain-requires-clause-hears
gain-requires-clause-hears c = target_hears c.args.p.now c.args.q.now c.args.f c.args.self.now c.requires.pair (heard_first c.args.p.now (pair_in c.args.p.now c.args.q.now c.args.self.now) c.args.x c.requires.may_get)

pub gain-requires-2-clause-hears : goal.gain-requires-2-clause-hears
gain-requires-2-clause-hears c =
    source_hears c.args.p.now c.args.q.now c.args.f c.args.self.now c.requires.pair (heard_first c.args.p.now (pair_in c.args.p.now c.args.q.now c.args.self.now) c.args.x c.requires.may_get) (register_count c.args.p.now c.args.f) c.requires.now

pub returns-clause-pair : goal.returns-clause-pair
returns-clause-pair c =
    pair_kept c.args.p.now c.args.q.now c.args.f c.args.self.now _ c.requires.pair (c.gain.ensures.program c.args.q.now c.requires.pair.target) (c.gain-2.ensures.program c.args.p.now c.requires.pair.source) refl
    (ap (λ (z : Seq). z.frame) (c.gain.ensures.state c.args.q.now)) (ap (λ (z : Seq). z.frame) (c.gain-2.ensures.state c.args.p.now))
