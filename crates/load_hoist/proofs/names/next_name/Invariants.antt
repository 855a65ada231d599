use Rattle.std.proofs.Common.{◌≡◌, ◌-◌, ◌++◌}
use Rattle.load_hoist.specs.Introduced.{free_number, next_number}
use Rattle.load_hoist.proofs.names.next_name.Given as goal

abbrev pub invariant-loop-number : goal.invariant-loop-number
invariant-loop-number l = free_number (l.tries - l.number) l.number (l.growth.registers ++ l.names) ≡ next_number l.names l.growth

abbrev pub decreases-loop-number : goal.decreases-loop-number
decreases-loop-number l = l.tries - l.number
