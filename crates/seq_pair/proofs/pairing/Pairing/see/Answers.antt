use Rattle.std.proofs.Common.{refl, ap}
use Rattle.seq_semantics.specs.Seq.{Seq}
use Rattle.seq_pair.specs.Pairing.{pair_in}
use Rattle.seq_pair.proofs.Heard.{target_hears, heard_first}
use Rattle.seq_pair.proofs.Entry.{pair_kept}
use Rattle.seq_pair.proofs.pairing.Pairing.see.Goals as goal

pub gain-requires-clause-hears : goal.gain-requires-clause-hears
gain-requires-clause-hears c = target_hears c.args.p.now c.args.q.now c.args.f c.args.self.now c.requires.pair (heard_first c.args.p.now (pair_in c.args.p.now c.args.q.now c.args.self.now) c.args.x c.requires.may_get)

pub returns-clause-pair : goal.returns-clause-pair
returns-clause-pair c = pair_kept c.args.p.now c.args.q.now c.args.f c.args.self.now _ c.requires.pair (c.gain.ensures.program c.args.q.now c.requires.pair.target) c.requires.pair.source refl (ap (λ (z : Seq). z.frame) (c.gain.ensures.state c.args.q.now)) refl
