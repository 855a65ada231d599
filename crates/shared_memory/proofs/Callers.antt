-- What the proofs of other crates use.
pub use Rattle.shared_memory.proofs.Histories.{view_stays}
pub use Rattle.shared_memory.proofs.Rows.{length-fresh, fresh_row, row_kept, refill_same}
