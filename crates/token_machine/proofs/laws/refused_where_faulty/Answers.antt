use Rattle.token_machine.proofs.Faults.{answer_fault, fault_answer}
use Rattle.token_machine.proofs.laws.refused_where_faulty.Goals as goal

pub returns : goal.returns
returns g c spelling step finish begin unexpected reads ts x = (answer_fault unexpected reads ts x, fault_answer unexpected reads ts x)
