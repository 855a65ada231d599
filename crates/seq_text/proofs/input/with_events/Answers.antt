use Rattle.std.proofs.Common.{rules, arith}
use Rattle.seq_text.specs.Events.{AreEventsRefusedAfter}
use Rattle.seq_text.proofs.Answered.{events_refused, read_lines_few, refused_lines_few}
use Rattle.seq_text.proofs.input.with_events.Goals as goal

pub returns-in-Ok-clause-lines : goal.returns-in-Ok-clause-lines
returns-in-Ok-clause-lines c =
    let few = read_lines_few c.args.pair.source c.args.events_text.now c.in-Ok.events.items c.in-Ok.ensures in
    omega (arith, few, c.first_line-first_line.ensures.few, c.requires.small)

pub overflow_add-first_line : goal.overflow_add-first_line
overflow_add-first_line c =
    let refused : AreEventsRefusedAfter c.args.pair.source c.args.events_text.now c.in-Err-Refused.lines = search rules in
    let few = refused_lines_few c.args.pair.source c.args.events_text.now c.in-Err-Refused.lines refused in
    omega (arith, few, c.first_line-first_line.ensures.few, c.requires.small)

pub returns-in-Err-Refused-clause-answer : goal.returns-in-Err-Refused-clause-answer
returns-in-Err-Refused-clause-answer c = λ input divided.
    let refused : AreEventsRefusedAfter c.args.pair.source c.args.events_text.now c.in-Err-Refused.lines = search rules in
    events_refused input c.at_line.result c.args.source_text.now c.args.target_text.now c.args.events_text.now divided c.args.pair.source c.args.pair.target c.in-Err-Refused.lines _
    c.requires.spelled refused (omega (arith, c.first_line-first_line.ensures.is)) c.at_line.ensures
