use Rattle.std.proofs.Common.{◌≡◌, ◌∙◌, ℕ, List, subst}
use Rattle.std.specs.List.{AllZip}
use Rattle.litmus.specs.Table.{IsTableRow, IsSeedRun, IsOutcomeTable, Run, firsts}
use Rattle.litmus.proofs.Counts.{counts_sum}
use Rattle.litmus.proofs.Rows.{rows_are_runs}
use Rattle.litmus.proofs.Tables.{table_of}
use Rattle.litmus.proofs.driver.litmus.Goals as goal

pub returns-clause-table : goal.returns-clause-table
returns-clause-table g c =
    let p = c.args.p.now in
    let runs = c.in_ok-runs.runs.items in
    table_of p c.args.seed c.args.seeds c.args.steps runs c.in_ok-table.field-0
    (subst (λ (ks : List ℕ). AllZip (λ (s : ℕ) (r : Run). IsSeedRun p s c.args.steps r) ks runs) (c.as_slice.ensures.value ∙ c.in_ok-list.ensures) c.in_ok-runs.ensures)
    (subst (λ (rs : List Run). AllZip (IsTableRow c.args.seed rs) (firsts rs) c.in_ok-table.field-0) c.as_slice-2.ensures.value c.in_ok-table.ensures)

pub returns-clause-counts : goal.returns-clause-counts
returns-clause-counts g c = counts_sum c.args.p.now c.args.seed c.args.seeds c.args.steps c.in_ok-table.field-0 (returns-clause-table g c)

pub returns-clause-runs : goal.returns-clause-runs
returns-clause-runs g c = rows_are_runs c.args.p.now c.args.seed c.args.seeds c.args.steps c.in_ok-table.field-0 (returns-clause-table g c)
