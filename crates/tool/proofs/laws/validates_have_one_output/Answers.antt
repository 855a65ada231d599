use Rattle.tool.proofs.OneVerdict.{validates_have_one_output}
use Rattle.tool.proofs.laws.validates_have_one_output.Goals as goal

pub returns : goal.returns
returns c = validates_have_one_output
