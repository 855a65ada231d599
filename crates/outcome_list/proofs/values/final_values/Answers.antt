use Rattle.std.proofs.Common.{◌∙◌}
use Rattle.outcome_list.proofs.LastValues.{values_made}
use Rattle.outcome_list.proofs.values.final_values.Goals as goal

pub returns : goal.returns
returns c =
    values_made c.args.p.now c.args.entries.now c.as_slice.result.now c.as_slice-2.result.now c.new-values.result.items c.push_values.new.out.items c.push_newest.new.out.items c.requires.proper c.requires.run (c.as_slice.ensures.value ∙ c.in_ok-na.ensures)
    (c.as_slice-2.ensures.value ∙ c.in_ok-atomic.ensures) c.new-values.ensures.items c.in_ok-push_values.ensures c.in_ok-push_newest.ensures
