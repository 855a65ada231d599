use Rattle.std.proofs.Common.{◌≡◌, sym, subst}
use Rattle.seq_pair.specs.declared.event.EnvEvent.{EnvEvent}
use Rattle.seq_pair.specs.Pair.{is_lawful}
use Rattle.seq_pair.specs.Pairing.{pair_in}
use Rattle.seq_pair.proofs.pairing.Pairing.admits.Goals as goal

pub returns-in-Enter : goal.returns-in-Enter
returns-in-Enter c =
    subst (λ (e : EnvEvent). c.may_enter.result ≡ is_lawful c.args.p.now c.args.f (pair_in c.args.p.now c.args.q.now c.args.self.now) e) (sym c.in-Enter.is) (c.may_enter.ensures c.args.q.now)
