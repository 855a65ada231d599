-- What the proofs of other crates use.
pub use Rattle.walk_limits.proofs.RunValues.{runs_have_values}
pub use Rattle.walk_limits.proofs.Fitting.{read_order, write_order, fence_order, runs_few, runs_fit, walks_fit}
