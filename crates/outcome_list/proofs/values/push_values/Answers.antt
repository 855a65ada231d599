use Rattle.values_undef.specs.declared.value.Val.TheVariants.{Def}
use Rattle.std.proofs.Common.{◌∙◌, ℤ, ap, arith, rules}
use Rattle.outcome_list.specs.Values.{last_value_of, value_at_end}
use Rattle.outcome_list.proofs.Comparing.{value_more}
use Rattle.outcome_list.proofs.values.push_values.Goals as goal

pub loop-x-preserved : goal.loop-x-preserved
loop-x-preserved c = record {
  within = omega (arith, c.loop-x-test.true);
  so_far = value_more (last_value_of c.args.declared.now c.args.entries.now) c.args.out.now.items c.loop-x.out.items c.push.new.self.items c.value_at_end.result c.loop-x.x c.loop-x.invariant.so_far (c.value_at_end.ensures ∙ ap (λ (n : ℤ). value_at_end c.loop-x.x (Def n) c.args.entries.now) (search rules)) c.in_ok-push.ensures.items;
}
