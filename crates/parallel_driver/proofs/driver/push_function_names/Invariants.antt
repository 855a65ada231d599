use Rattle.std.proofs.Common.{◌≡◌, ◌++◌, map, take}
use Rattle.il_syntax.specs.declared.program.Function.{Function}
use Rattle.parallel_driver.proofs.driver.push_function_names.Given as goal

abbrev pub invariant-loop-f : goal.invariant-loop-f
invariant-loop-f l = l.names ≡ l.fn.names ++ map (λ (f : Function). f.name) (take l.f-index l.functions)
