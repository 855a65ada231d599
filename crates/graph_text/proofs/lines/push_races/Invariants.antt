use Rattle.std.proofs.Common.{◌≡◌, ◌++◌, take}
use Rattle.graph_text.specs.GraphText.{race_lines}
use Rattle.graph_text.proofs.lines.push_races.Given as goal

abbrev pub invariant-loop-race : goal.invariant-loop-race
invariant-loop-race l = l.out.items ≡ l.initial.out.items ++ race_lines (take l.race-index l.races)
