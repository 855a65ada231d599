use Rattle.std.proofs.Common.{arith, sym, ◌∙◌}
use Rattle.thread_core.specs.Steps.{stack_in}
use Rattle.thread_core.proofs.Silent.{one_more_silent, after_one_more}
use Rattle.thread_core.proofs.local.Local.run_to.Goals as goal

pub loop-made-preserved : goal.loop-made-preserved
loop-made-preserved c =
    let p = c.args.p.now in
    let l = stack_in p c.args.self.now in
    let m = stack_in p c.loop-made.self in
    let h = c.loop-made.invariant in
    record {
      most = omega (arith, c.loop-made-test.true);
      silent = one_more_silent p c.loop-made.made l m h.silent h.stack (sym c.proceed.ensures.next ∙ c.in-Silent.is);
      stack = after_one_more p c.loop-made.made l m (stack_in p c.proceed.new.self) h.stack (c.proceed.ensures.made c.in-Silent.is);
      at = c.proceed.ensures.at;
    }
