use Rattle.std.proofs.Common.{take}
use Rattle.std.specs.List.{AllByRecursion, AllZip}
use Rattle.indexed_memory.specs.Index.{HasGrown, HasRoomFor}
use Rattle.indexed_memory.proofs.line.reserve_lines.Given as goal

abbrev pub invariant-loop-i : goal.invariant-loop-i
invariant-loop-i l = record {
  grown : AllZip HasGrown l.fn.lines l.lines;
  ready : AllByRecursion (HasRoomFor l.n) (take l.i l.lines);
}
