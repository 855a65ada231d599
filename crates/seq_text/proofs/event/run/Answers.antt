use Rattle.seq_text.proofs.EventWords.{no_steps}
use Rattle.seq_text.proofs.event.run.Goals as goal

pub returns-then-n-eq0 : goal.returns-then-n-eq0
returns-then-n-eq0 c = no_steps c.args.p.now c.args.n.now c.in_ok-n.n c.if-n-eq0.true c.in_ok-n.ensures.1
