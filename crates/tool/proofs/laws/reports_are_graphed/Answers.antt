use Rattle.tool.proofs.OneGraph.{reports_are_graphed}
use Rattle.tool.proofs.laws.reports_are_graphed.Goals as goal

pub returns : goal.returns
returns c = reports_are_graphed
