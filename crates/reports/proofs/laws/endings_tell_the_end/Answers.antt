use Rattle.reports.proofs.Endings.{endings_tell}
use Rattle.reports.proofs.laws.endings_tell_the_end.Goals as goal

pub returns : goal.returns
returns c = endings_tell
