use Rattle.std.proofs.Common.{◌≡◌, ◌≤◌, ◌++◌, length, map}
use Rattle.std.specs.List.{range_with_len}
use Rattle.outcome_list.specs.Values.{last_value_of}
use Rattle.outcome_list.proofs.values.push_values.Given as goal

abbrev pub invariant-loop-x : goal.invariant-loop-x
invariant-loop-x l = record { within : l.x ≤ length l.declared; so_far : l.out.items ≡ l.initial.out.items ++ map (last_value_of l.declared l.entries) (range_with_len 0 l.x) }
