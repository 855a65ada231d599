use Rattle.std.proofs.Common.{refl}
use Rattle.view_machine.proofs.machine.Machine.step.Goals as goal

pub step_plain-requires-clause-running : goal.step_plain-requires-clause-running
step_plain-requires-clause-running g c κs within = (c.if-not-is_running.ensures.going c.args.p.now).0 refl
