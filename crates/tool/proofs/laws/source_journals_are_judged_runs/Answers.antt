use Rattle.tool.proofs.JudgedReports.{sources_are_judged}
use Rattle.tool.proofs.laws.source_journals_are_judged_runs.Goals as goal

pub returns : goal.returns
returns c = sources_are_judged
