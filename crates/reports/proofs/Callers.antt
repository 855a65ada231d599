-- What the proofs of other crates use.
pub use Rattle.reports.proofs.Chains.{complete_runs_are_few, reported_of_given}
pub use Rattle.reports.proofs.OneTarget.{targets_are_one}
pub use Rattle.reports.proofs.ReadBack.{reports_read_back, source_journals_read_back}
pub use Rattle.reports.proofs.Endings.{endings_tell}
