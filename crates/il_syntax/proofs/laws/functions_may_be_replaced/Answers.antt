use Rattle.il_syntax.proofs.Replaced.{functions_may_be_replaced}
use Rattle.il_syntax.proofs.laws.functions_may_be_replaced.Goals as goal

pub returns : goal.returns
returns c = functions_may_be_replaced
