use Rattle.std.proofs.Common.{◌≡◌, ◌++◌, drop}
use Rattle.il_syntax.specs.Given.{declared_values}
use Rattle.thread_core.proofs.opening.declared_values.Given as goal

abbrev pub invariant-loop-location : goal.invariant-loop-location
invariant-loop-location l = l.values.items ++ declared_values (drop l.location-index l.location-items) ≡ declared_values l.locations
