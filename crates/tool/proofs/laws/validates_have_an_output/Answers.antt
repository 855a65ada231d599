use Rattle.tool.proofs.EachVerdict.{validates_have_an_output}
use Rattle.tool.proofs.laws.validates_have_an_output.Goals as goal

pub returns : goal.returns
returns c = validates_have_an_output c.each_pair_has_a_verdict.ensures
