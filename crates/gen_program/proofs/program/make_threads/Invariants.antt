use Rattle.std.proofs.Common.{◌≡◌}
use Rattle.gen_program.specs.Generated.{threads_of}
use Rattle.gen_program.proofs.program.make_threads.Given as goal

abbrev pub invariant-loop-function : goal.invariant-loop-function
invariant-loop-function l = l.threads ≡ threads_of l.function
