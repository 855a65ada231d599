use Rattle.std.proofs.Common.{◌≡◌, length, arith}
use Rattle.seq_text.proofs.EventSteps.{none_decoded}
use Rattle.seq_text.proofs.events.read_lines.Goals as goal

pub returns-in-None : goal.returns-in-None
returns-in-None c =
    let count : c.len-lines.result ≡ length c.lines.events.items = omega (arith, c.len-lines.ensures, c.lines.events.ok.0) in
    none_decoded c.args.p.now c.args.text.now c.lines.events.items c.lines.rest.now c.in-Some.line.now c.in-Some.after.now c.lines.invariant c.in-Some.ensures c.requires.names
    c.in_ok-event.event c.in-None.is c.in_ok-event.ensures c.len-lines.result count
