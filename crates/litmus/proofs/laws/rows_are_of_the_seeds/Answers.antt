use Rattle.litmus.proofs.Counts.{counts_sum}
use Rattle.litmus.proofs.Rows.{rows_are_runs}
use Rattle.litmus.proofs.laws.rows_are_of_the_seeds.Goals as goal

pub returns-clause-counts : goal.returns-clause-counts
returns-clause-counts c = counts_sum

pub returns-clause-runs : goal.returns-clause-runs
returns-clause-runs c = rows_are_runs
