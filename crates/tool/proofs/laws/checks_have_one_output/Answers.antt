use Rattle.tool.proofs.OneOutput.{checks_have_an_output, checks_have_one_output}
use Rattle.tool.proofs.laws.checks_have_one_output.Goals as goal

pub returns-clause-some : goal.returns-clause-some
returns-clause-some c = checks_have_an_output

pub returns-clause-one : goal.returns-clause-one
returns-clause-one c = checks_have_one_output
