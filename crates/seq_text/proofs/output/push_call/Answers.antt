use Rattle.il_syntax.specs.Text.{function_name}
use Rattle.seq_text.specs.Output.{paired_words}
use Rattle.seq_text.proofs.Lines.{call_written}
use Rattle.seq_text.proofs.output.push_call.Goals as goal

pub returns : goal.returns
returns c =
    call_written c.push_arguments.result c.args.out.now.items _ _ c.push_arguments.new.out.items (function_name c.args.functions.now c.args.function)
    (paired_words c.args.targets.now c.args.sources.now) c.in_ok-push.ensures c.in_ok-push_function.ensures c.push_arguments.ensures
