-- What the proofs of other crates use.
pub use Rattle.outcome_moves.proofs.Ends.{ends_found}
pub use Rattle.outcome_moves.proofs.Growing.{end_or_before}
pub use Rattle.outcome_moves.proofs.Using.{no_entry}
