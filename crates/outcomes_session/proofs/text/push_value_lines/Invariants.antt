use Rattle.std.proofs.Common.{◌≡◌, ◌++◌}
use Rattle.std.specs.List.{flat_map, range_with_len}
use Rattle.text_parts.specs.Lines.{whole_line}
use Rattle.outcomes_session.specs.Output.{value_line}
use Rattle.outcomes_session.proofs.text.push_value_lines.Given as goal

abbrev pub invariant-loop-i : goal.invariant-loop-i
invariant-loop-i l = l.out.items ≡ l.initial.out.items ++ flat_map (λ i. whole_line (value_line l.locations l.values l.from i)) (range_with_len 0 l.i)
