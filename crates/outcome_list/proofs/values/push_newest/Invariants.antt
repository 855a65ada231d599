use Rattle.std.proofs.Common.{◌≡◌, ◌≤◌, ◌++◌, length, map}
use Rattle.std.specs.List.{range_with_len}
use Rattle.outcome_list.specs.Values.{newest_value_of}
use Rattle.outcome_list.proofs.values.push_newest.Given as goal

abbrev pub invariant-loop-y : goal.invariant-loop-y
invariant-loop-y l = record { within : l.y ≤ length l.declared; so_far : l.out.items ≡ l.initial.out.items ++ map (newest_value_of l.declared l.entries) (range_with_len 0 l.y) }
