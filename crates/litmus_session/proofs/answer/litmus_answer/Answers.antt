use Rattle.litmus_session.proofs.Judged.{answer_judged, answer_refused}
use Rattle.litmus_session.proofs.answer.litmus_answer.Goals as goal

pub returns-in_ok-judged-in-Ok : goal.returns-in_ok-judged-in-Ok
returns-in_ok-judged-in-Ok g c =
    answer_judged c.args.input.now c.args.seed c.args.seeds c.args.steps c.in-Ok.read.program c.in-Ok.read.expectations.items c.as_slice-expectations.result.now c.in_ok-judged-in-Ok.judged.text.items c.in_ok-judged-in-Ok.judged.met
    c.in-Ok.ensures.ok c.as_slice-expectations.ensures.value c.in_ok-judged-in-Ok.ensures

pub returns-in-Err-Refused : goal.returns-in-Err-Refused
returns-in-Err-Refused g c =
    rw (c.in-Err-Refused.rule-is, c.in-Err-Refused.line-is, c.in-Err-Refused.column-is)
    (answer_refused c.args.input.now c.args.seed c.args.seeds c.args.steps c.in-Err-Refused.field-0 c.in-Err-Refused.rule c.in-Err-Refused.line c.in-Err-Refused.column c.in-Err-Refused.ensures.refused c.in-Err-Refused.field-0-is)
