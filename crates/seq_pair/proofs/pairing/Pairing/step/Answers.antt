use Rattle.std.proofs.Common.{sym, ◌∙◌}
use Rattle.seq_pair.specs.Pair.{register_count}
use Rattle.seq_pair.specs.Pairing.{pair_in}
use Rattle.seq_pair.proofs.Along.{step_of_both}
use Rattle.seq_pair.proofs.pairing.Pairing.step.Goals as goal

pub meet-requires-clause-next : goal.meet-requires-clause-next
meet-requires-clause-next c =
    step_of_both c.args.p.now c.args.q.now c.args.old (register_count c.args.p.now c.args.f) (pair_in c.args.p.now c.args.q.now c.args.self.now) _ _ _ _ c.requires.registers
    (sym c.at_new_load.ensures ∙ c.if-at_new_load.false)
    c.step-target.ensures.seen
    c.step-source.ensures.seen
    c.step-target.ensures.state
    c.step-source.ensures.state
    c.requires.next
