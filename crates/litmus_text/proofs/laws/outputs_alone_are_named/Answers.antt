use Rattle.litmus_text.proofs.OutputsAlone.{outputs_alone}
use Rattle.litmus_text.proofs.laws.outputs_alone_are_named.Goals as goal

pub returns : goal.returns
returns c = outputs_alone
