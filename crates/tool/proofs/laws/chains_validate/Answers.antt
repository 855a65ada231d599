use Rattle.tool.proofs.OneVerdict.{chains_validate}
use Rattle.tool.proofs.laws.chains_validate.Goals as goal

pub returns : goal.returns
returns c = chains_validate
