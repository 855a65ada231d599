use Rattle.std.proofs.Common.{◌≡◌, ◌-◌, ◌++◌}
use Rattle.gen_program.specs.Generated.{functions_from}
use Rattle.gen_program.proofs.program.make_functions.Given as goal

abbrev pub invariant-loop-number : goal.invariant-loop-number
invariant-loop-number l = l.functions ++ functions_from (l.count - l.number) l.number l.generator ≡ functions_from l.count 0 l.fn.generator
