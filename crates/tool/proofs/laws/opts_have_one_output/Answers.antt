use Rattle.tool.proofs.OneProgram.{opts_have_one_output}
use Rattle.tool.proofs.laws.opts_have_one_output.Goals as goal

pub returns : goal.returns
returns c = opts_have_one_output
