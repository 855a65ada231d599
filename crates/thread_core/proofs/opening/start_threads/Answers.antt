use Rattle.std.proofs.Common.{map, subst, sym, ap, ◌∙◌}
use Rattle.std.specs.List.{AllByRecursion}
use Rattle.thread_core.specs.Steps.{stack_in, ArePositions}
use Rattle.values_undef.proofs.Callers.{all_push}
use Rattle.thread_core.proofs.Opened.{one_more}
use Rattle.thread_core.proofs.opening.start_threads.Goals as goal

pub loop-i-preserved : goal.loop-i-preserved
loop-i-preserved c = record {
  stacks = ap (map (stack_in c.args.p.now)) c.in_ok-push.ensures.items ∙ one_more c.args.p.now c.loop-i.locals.items c.in_ok-local.local c.loop-i.i c.loop-i.invariant.stacks c.in_ok-local.ensures.stack;
  positions = subst (AllByRecursion (ArePositions c.args.p.now)) (sym c.in_ok-push.ensures.items) (all_push (ArePositions c.args.p.now) c.loop-i.locals.items c.in_ok-local.local c.loop-i.invariant.positions c.in_ok-local.ensures.at);
}
