use Rattle.tool.proofs.JudgedReports.{statuses_tell}
use Rattle.tool.proofs.laws.statuses_tell_the_end.Goals as goal

pub returns : goal.returns
returns c = statuses_tell
