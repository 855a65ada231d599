use Rattle.std.proofs.lemmas.Result.{IfOk-weaker}
use Rattle.tool.proofs.OutcomesFacts.{outcomes_written}
use Rattle.tool.proofs.commands.exploring.output.Goals as goal

pub returns : goal.returns
returns c =
    IfOk-weaker c.written_outcomes.result _ _ (λ o h. outcomes_written c.args.steps c.args.states c.args.input.now o.bytes.items o.status c.in_ok-answer.answer c.in_ok-answer.ensures h) c.written_outcomes.ensures
