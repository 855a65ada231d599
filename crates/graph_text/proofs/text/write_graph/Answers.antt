use Rattle.std.proofs.Common.{rules}
use Rattle.graph_text.specs.GraphText.{graph_text}
use Rattle.graph_text.proofs.text.write_graph.Goals as goal

pub returns : goal.returns
unfolding graph_text
returns c = search rules
