use Rattle.tool.proofs.OneGraph.{no_input_lacks_a_graph, graphs_have_one_output}
use Rattle.tool.proofs.laws.graphs_have_one_output.Goals as goal

pub returns-clause-none_lacks : goal.returns-clause-none_lacks
returns-clause-none_lacks c = no_input_lacks_a_graph

pub returns-clause-one : goal.returns-clause-one
returns-clause-one c = graphs_have_one_output
