use Rattle.token_machine.proofs.Faults.{answer_spells, spells_answer}
use Rattle.token_machine.proofs.laws.read_where_spelled.Goals as goal

pub returns : goal.returns
returns g c spelling step finish begin unexpected reads ts x = (answer_spells unexpected reads ts x, spells_answer unexpected reads ts x)
