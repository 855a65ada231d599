use Rattle.reports.proofs.ReadBack.{source_journals_read_back}
use Rattle.reports.proofs.laws.source_journals_read_back.Goals as goal

pub returns : goal.returns
returns c = source_journals_read_back
