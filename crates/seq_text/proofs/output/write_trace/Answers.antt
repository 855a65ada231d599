use Rattle.std.proofs.Common.{rules}
use Rattle.seq_text.specs.Output.{trace_text}
use Rattle.seq_text.proofs.output.write_trace.Goals as goal

pub returns : goal.returns
unfolding trace_text
returns c = search rules
