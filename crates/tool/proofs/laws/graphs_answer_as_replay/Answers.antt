use Rattle.tool.proofs.OneGraph.{graphs_answer_as_replay}
use Rattle.tool.proofs.laws.graphs_answer_as_replay.Goals as goal

pub returns : goal.returns
returns c = graphs_answer_as_replay
