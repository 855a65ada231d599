use Rattle.litmus.proofs.OneTable.{one_run, one_table}
use Rattle.litmus.proofs.laws.seeds_have_one_table.Goals as goal

pub returns-clause-run : goal.returns-clause-run
returns-clause-run c = one_run

pub returns-clause-table : goal.returns-clause-table
returns-clause-table c = one_table
