use Rattle.litmus_session.proofs.Fixed.{verdicts_fixed}
use Rattle.litmus_session.proofs.laws.verdicts_are_fixed.Goals as goal

pub returns : goal.returns
returns c = verdicts_fixed
