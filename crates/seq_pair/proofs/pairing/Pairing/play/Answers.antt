use Rattle.std.proofs.Common.{◌≡◌, true, subst}
use Rattle.std.proofs.lemmas.Bool.{and_parts}
use Rattle.seq_pair.specs.declared.event.EnvEvent.{EnvEvent}
use Rattle.seq_pair.specs.Pair.{is_lawful, may_get}
use Rattle.seq_pair.specs.Pairing.{pair_in}
use Rattle.seq_pair.proofs.Along.{led_along}
use Rattle.seq_pair.proofs.pairing.Pairing.play.Goals as goal

pub run-requires-clause-in_step : goal.run-requires-clause-in_step
run-requires-clause-in_step c =
    let p = c.args.p.now in
    let s = pair_in p c.args.q.now c.args.self.now in
    led_along p c.args.q.now c.args.f s c.in-Run.n c.requires.led (subst (λ (e : EnvEvent). is_lawful p c.args.f s e ≡ true) c.in-Run.is c.requires.lawful)

pub gain-requires-clause-may_get : goal.gain-requires-clause-may_get
gain-requires-clause-may_get c =
    let p = c.args.p.now in
    let s = pair_in p c.args.q.now c.args.self.now in
    (and_parts (may_get p s c.in-Gain.x) _ (subst (λ (e : EnvEvent). is_lawful p c.args.f s e ≡ true) c.in-Gain.is c.requires.lawful)).0
