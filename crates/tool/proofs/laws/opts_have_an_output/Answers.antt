use Rattle.tool.proofs.EachVerdict.{opts_have_an_output}
use Rattle.tool.proofs.laws.opts_have_an_output.Goals as goal

pub returns : goal.returns
returns c = opts_have_an_output c.each_program_has_a_chain.ensures.program
