-- What the proofs of other crates use.
pub use Rattle.outcome_list.proofs.Orders.{outcomes_total, outcomes_equal}
pub use Rattle.outcome_list.proofs.Covers.{covers_as_said, missed_as_said}
