use Rattle.seq_session.proofs.Answered.{read_answered, refused_answered}
use Rattle.seq_session.proofs.session.seq_answer.Goals as goal

pub returns-in-Ok : goal.returns-in-Ok
returns-in-Ok c =
    read_answered c.args.input.now c.args.name.now c.in-Ok.session.source c.in-Ok.session.target c.in-Ok.session.events.items c.in-Ok.session.first_line c.named.result c.in-Ok.ensures.ok c.named.ensures

pub returns-in-Err-Refused : goal.returns-in-Err-Refused
returns-in-Err-Refused c =
    rw (c.in-Err-Refused.rule-is, c.in-Err-Refused.line-is, c.in-Err-Refused.column-is)
    (refused_answered c.args.input.now c.args.name.now c.in-Err-Refused.field-0 c.in-Err-Refused.rule c.in-Err-Refused.line c.in-Err-Refused.column c.in-Err-Refused.ensures.refused c.in-Err-Refused.field-0-is)
