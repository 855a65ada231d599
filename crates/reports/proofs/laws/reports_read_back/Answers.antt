use Rattle.reports.proofs.ReadBack.{reports_read_back}
use Rattle.reports.proofs.laws.reports_read_back.Goals as goal

pub returns : goal.returns
returns c = reports_read_back
