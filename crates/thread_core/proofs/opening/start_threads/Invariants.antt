use Rattle.std.proofs.Common.{◌≡◌, map, take}
use Rattle.std.specs.List.{AllByRecursion}
use Rattle.thread_core.specs.Steps.{stack_in, ArePositions}
use Rattle.thread_core.specs.Frames.{start_of}
use Rattle.thread_core.proofs.opening.start_threads.Given as goal

abbrev pub invariant-loop-i : goal.invariant-loop-i
invariant-loop-i l = record {
  stacks : map (stack_in l.p) l.locals.items ≡ map (start_of l.p) (take l.i l.p.threads);
  positions : AllByRecursion (ArePositions l.p) l.locals.items;
}
