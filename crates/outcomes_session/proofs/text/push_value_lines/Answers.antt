use Rattle.text_parts.specs.Lines.{whole_line}
use Rattle.outcomes_session.specs.Output.{value_line}
use Rattle.outcomes_session.proofs.Lines.{lines_more}
use Rattle.outcomes_session.proofs.text.push_value_lines.Goals as goal

pub loop-i-preserved : goal.loop-i-preserved
loop-i-preserved c =
    lines_more (λ i. whole_line (value_line c.args.locations.now c.args.values.now c.args.from i)) c.args.out.now.items c.loop-i.out.items c.push_value_line.new.out.items c.loop-i.i c.loop-i.invariant c.in_ok-push_value_line.ensures
