use Rattle.std.proofs.lemmas.Result.{IfOk-weaker}
use Rattle.refute_session.proofs.Answered.{answer_read, answer_refused}
use Rattle.refute_session.proofs.answer.refute_answer.Goals as goal

pub returns-in-Ok : goal.returns-in-Ok
returns-in-Ok c =
    IfOk-weaker c.compared.result _ _ (λ a h. answer_read c.args.input.now c.args.steps c.args.states c.in-Ok.pair.source c.in-Ok.pair.target a c.in-Ok.ensures.ok h) c.compared.ensures

pub returns-in-Err-Refused : goal.returns-in-Err-Refused
returns-in-Err-Refused c =
    rw (c.in-Err-Refused.rule-is, c.in-Err-Refused.line-is, c.in-Err-Refused.column-is)
    (answer_refused c.args.input.now c.args.steps c.args.states c.in-Err-Refused.field-0 c.in-Err-Refused.rule c.in-Err-Refused.line c.in-Err-Refused.column c.in-Err-Refused.ensures.refused c.in-Err-Refused.field-0-is)
