use Rattle.std.proofs.Common.{◌≡◌, ◌++◌, map, take}
use Rattle.il_syntax.specs.declared.program.Location.{Location}
use Rattle.parallel_driver.proofs.driver.push_location_names.Given as goal

abbrev pub invariant-loop-location : goal.invariant-loop-location
invariant-loop-location l = l.names ≡ l.fn.names ++ map (λ (location : Location). location.name) (take l.location-index l.locations)
