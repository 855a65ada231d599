use Rattle.std.proofs.Common.{◌≡◌, drop}
use Rattle.values_undef.specs.declared.value.Val.TheVariants.{Def}
use Rattle.outcome_list.specs.Values.{value_at_end}
use Rattle.outcome_list.proofs.values.value_at_end.Given as goal

abbrev pub invariant-loop-entry : goal.invariant-loop-entry
invariant-loop-entry l = value_at_end l.x l.v (drop l.entry-index l.entries) ≡ value_at_end l.x (Def l.declared) l.entries
