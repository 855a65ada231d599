use Rattle.std.proofs.Common.{◌≡◌, ◌≤◌, ◌-◌}
use Rattle.thread_core.specs.Steps.{stack_in, ArePositions}
use Rattle.thread_core.specs.Alone.{HasSilent, local_after_silent}
use Rattle.thread_core.proofs.local.Local.run_to.Given as goal

abbrev pub invariant-loop-made : goal.invariant-loop-made
invariant-loop-made l = record {
  most : l.made ≤ l.most;
  silent : HasSilent l.p l.made (stack_in l.p l.fn.self);
  stack : stack_in l.p l.self ≡ local_after_silent l.p l.made (stack_in l.p l.fn.self);
  at : ArePositions l.p l.self;
}

abbrev pub decreases-loop-made : goal.decreases-loop-made
decreases-loop-made l = l.most - l.made
