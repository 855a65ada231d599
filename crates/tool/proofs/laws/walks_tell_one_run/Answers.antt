use Rattle.tool.proofs.OneRun.{walks_tell_one_run, tidies_tell_one_run}
use Rattle.tool.proofs.laws.walks_tell_one_run.Goals as goal

pub returns-clause-walks : goal.returns-clause-walks
returns-clause-walks c = walks_tell_one_run

pub returns-clause-tidies : goal.returns-clause-tidies
returns-clause-tidies c = tidies_tell_one_run
