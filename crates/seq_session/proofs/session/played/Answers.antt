use Rattle.seq_session.proofs.Answered.{fault_answered, trace_answered}
use Rattle.seq_session.proofs.session.played.Goals as goal

pub returns-in_ok-write_trace-in-Ok : goal.returns-in_ok-write_trace-in-Ok
returns-in_ok-write_trace-in-Ok c =
    trace_answered c.args.session.now.source c.args.session.now.target c.args.function c.args.session.now.events.items c.args.session.now.first_line c.as_slice-events.result.now c.in-Ok.trace
    c.in_ok-write_trace-in-Ok.field-0 c.as_slice-events.ensures.value c.requires.accepted c.in-Ok.ensures.trace c.in_ok-write_trace-in-Ok.ensures

pub returns-in-Err-Event : goal.returns-in-Err-Event
returns-in-Err-Event c =
    rw c.in-Err-Event.at-is
    (fault_answered c.args.session.now.source c.args.session.now.target c.args.function c.args.session.now.events.items c.args.session.now.first_line c.as_slice-events.result.now c.in-Err-Event.field-0
    c.in-Err-Event.at c.as_slice-events.ensures.value c.requires.accepted c.in-Err-Event.ensures.fault c.in-Err-Event.field-0-is)
