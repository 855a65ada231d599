use Rattle.tool.proofs.OneOutput.{no_input_lacks_a_replay, replays_have_one_output}
use Rattle.tool.proofs.laws.replays_have_one_output.Goals as goal

pub returns-clause-none_lacks : goal.returns-clause-none_lacks
returns-clause-none_lacks c = no_input_lacks_a_replay

pub returns-clause-one : goal.returns-clause-one
returns-clause-one c = replays_have_one_output
