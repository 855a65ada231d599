-- What the proofs of other crates use.
pub use Rattle.litmus.proofs.Outcomes.{told_apart}
pub use Rattle.litmus.proofs.OneTable.{one_run, one_table}
pub use Rattle.litmus.proofs.Rows.{rows_are_runs}
pub use Rattle.litmus.proofs.DrawnRuns.{drawn_chosen}
