-- What the proofs of other crates use.
pub use Rattle.outcome_budgets.proofs.Completing.{runs_completed}
pub use Rattle.outcome_budgets.proofs.Greater.{outcomes_exist, unstopped_lists, done_complete, done_unstopped, done_lists, done_end}
