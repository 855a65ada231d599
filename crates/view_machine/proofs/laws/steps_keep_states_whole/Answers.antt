use Rattle.view_machine.proofs.Reached.{initial_reached, step_reached, makes_reached}
use Rattle.view_machine.proofs.laws.steps_keep_states_whole.Goals as goal

pub returns : goal.returns
returns c = record { first = initial_reached; step = step_reached; event = makes_reached }
