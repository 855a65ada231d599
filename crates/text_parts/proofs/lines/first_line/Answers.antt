use Rattle.text_parts.proofs.FirstLines.{line_taken, no_line}
use Rattle.text_parts.proofs.lines.first_line.Goals as goal

pub returns-in-Some : goal.returns-in-Some
returns-in-Some c = line_taken c.args.text.now c.in-Some.length c.in-Some.ensures

pub returns-in-None : goal.returns-in-None
returns-in-None c = no_line c.args.text.now c.in-None.ensures
