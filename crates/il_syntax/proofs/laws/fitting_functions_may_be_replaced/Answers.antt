use Rattle.il_syntax.proofs.Replaced.{fitting_functions_may_be_replaced}
use Rattle.il_syntax.proofs.laws.fitting_functions_may_be_replaced.Goals as goal

pub returns : goal.returns
returns c = fitting_functions_may_be_replaced
