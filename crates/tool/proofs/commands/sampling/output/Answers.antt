use Rattle.std.proofs.lemmas.Result.{IfOk-weaker}
use Rattle.tool.proofs.LitmusFacts.{answer_written}
use Rattle.tool.proofs.commands.sampling.output.Goals as goal

pub returns : goal.returns
returns g c =
    IfOk-weaker c.written_answer.result _ _ (λ o h. answer_written c.args.seed c.args.seeds c.args.steps c.args.input.now o.bytes.items o.status c.in_ok-answer.answer c.in_ok-answer.ensures h) c.written_answer.ensures
