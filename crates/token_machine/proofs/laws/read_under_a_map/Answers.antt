use Rattle.token_machine.proofs.Mapped.{answer_mapped}
use Rattle.token_machine.proofs.laws.read_under_a_map.Goals as goal

pub returns : goal.returns
returns g c step finish step' finish' on_state on_tree on_terminal unexpected steps finishes = answer_mapped step finish step' finish' on_state on_tree on_terminal unexpected steps finishes
