use Rattle.std.proofs.Common.{◌≡◌, drop}
use Rattle.outcome_list.specs.Values.{first_newest, newest_at_end}
use Rattle.outcome_list.proofs.values.newest_at_end.Given as goal

abbrev pub invariant-loop-entry : goal.invariant-loop-entry
invariant-loop-entry l = newest_at_end l.y l.newest (drop l.entry-index l.entries) ≡ newest_at_end l.y (first_newest l.declared) l.entries
