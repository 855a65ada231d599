use Rattle.outcomes_session.proofs.Answered.{answer_many, answer_refused, answer_told, is_many, is_told_of}
use Rattle.outcomes_session.proofs.answer.outcomes_answer.Goals as goal

pub returns-in-TooMany : goal.returns-in-TooMany
returns-in-TooMany c =
    answer_many c.args.input.now c.args.steps c.args.states c.in-Ok.read.program c.in-Ok.read.expectations.items c.in-Ok.ensures.ok
    (is_many c.in-Ok.read.program c.as_slice.result.now c.args.steps c.args.states c.in_ok-tell-in-Ok.field-0 c.in_ok-tell-in-Ok.ensures c.in-TooMany.is)

pub returns-in-Ok : goal.returns-in-Ok
returns-in-Ok c =
    answer_told c.args.input.now c.args.steps c.args.states c.in-Ok.read.program c.in-Ok.read.expectations.items c.as_slice.result.now c.in-Told.text c.in-Told.met c.in-Ok.ensures.ok c.as_slice.ensures.value
    (is_told_of c.in-Ok.read.program c.as_slice.result.now c.args.steps c.args.states c.in_ok-tell-in-Ok.field-0 c.in-Told.text c.in-Told.met c.in_ok-tell-in-Ok.ensures c.in-Told.is)

pub returns-in-Err-Refused : goal.returns-in-Err-Refused
returns-in-Err-Refused c =
    rw (c.in-Err-Refused.rule-is, c.in-Err-Refused.line-is, c.in-Err-Refused.column-is)
    (answer_refused c.args.input.now c.args.steps c.args.states c.in-Err-Refused.field-0 c.in-Err-Refused.rule c.in-Err-Refused.line c.in-Err-Refused.column c.in-Err-Refused.ensures.refused c.in-Err-Refused.field-0-is)
