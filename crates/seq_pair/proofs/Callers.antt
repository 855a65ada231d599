-- What the proofs of other crates use.
pub use Rattle.seq_pair.proofs.Told.{pairs_stay_related}
