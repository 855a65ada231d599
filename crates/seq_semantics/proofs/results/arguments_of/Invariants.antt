use Rattle.std.proofs.Common.{◌≡◌, map, take}
use Rattle.thread_core.specs.Frames.{evaluated}
use Rattle.seq_semantics.proofs.results.arguments_of.Given as goal

abbrev pub invariant-loop-a : goal.invariant-loop-a
invariant-loop-a l = l.values ≡ map (evaluated l.local.top.registers) (take l.a-index l.args)
