use Rattle.std.proofs.lemmas.Result.{IfOk-weaker}
use Rattle.tool.proofs.RefuteFacts.{refute_written}
use Rattle.tool.proofs.commands.refuting.output.Goals as goal

pub returns : goal.returns
returns c =
    IfOk-weaker c.written_refute.result _ _ (λ o h. refute_written c.args.steps c.args.states c.args.input.now o.bytes.items o.status c.in_ok-answer.answer c.in_ok-answer.ensures h) c.written_refute.ensures
