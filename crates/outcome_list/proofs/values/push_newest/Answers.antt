use Rattle.std.proofs.Common.{◌∙◌, ℤ, ap, arith, rules}
use Rattle.outcome_list.specs.Values.{first_newest, newest_value_of, newest_at_end}
use Rattle.outcome_list.proofs.Comparing.{value_more}
use Rattle.outcome_list.proofs.values.push_newest.Goals as goal

pub loop-y-preserved : goal.loop-y-preserved
loop-y-preserved c = record {
  within = omega (arith, c.loop-y-test.true);
  so_far = value_more (newest_value_of c.args.declared.now c.args.entries.now) c.args.out.now.items c.loop-y.out.items c.push.new.self.items c.newest_at_end.result c.loop-y.y c.loop-y.invariant.so_far (c.newest_at_end.ensures ∙ ap (λ (n : ℤ). (newest_at_end c.loop-y.y (first_newest n) c.args.entries.now).value) (search rules)) c.in_ok-push.ensures.items;
}
