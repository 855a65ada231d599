use Rattle.il_syntax.proofs.GivenLaw.{given_registers_exist}
use Rattle.il_syntax.proofs.laws.given_registers_exist.Goals as goal

pub returns : goal.returns
returns c = given_registers_exist
