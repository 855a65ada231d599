use Rattle.std.proofs.Common.{◌≡◌, ◌++◌, drop}
use Rattle.graph_text.specs.GraphText.{link_lines}
use Rattle.graph_text.proofs.lines.push_links.Given as goal

-- what is written, with what is left to be written, is the whole
abbrev pub invariant-loop-read : goal.invariant-loop-read
invariant-loop-read l = l.out.items ++ link_lines (drop l.read-index l.reads) l.left ≡ l.initial.out.items ++ link_lines l.reads l.races
