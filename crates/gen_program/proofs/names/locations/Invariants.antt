use Rattle.std.proofs.Common.{◌≡◌}
use Rattle.gen_program.specs.Generated.{locations_of_letter}
use Rattle.gen_program.proofs.names.locations.Given as goal

abbrev pub invariant-loop-number : goal.invariant-loop-number
invariant-loop-number l = l.locations ≡ locations_of_letter l.letter l.number
