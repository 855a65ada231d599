use Rattle.std.proofs.Common.{below_more, sym, ◌∙◌}
use Rattle.validator.proofs.told.first_fault.Goals as goal

pub loop-site-preserved : goal.loop-site-preserved
loop-site-preserved c = below_more _ _ c.loop-site.invariant (sym c.fault_at.ensures ∙ c.in_default.is)
