-- What proofs of other crates use.
pub use Rattle.words.proofs.Meanings.{one_meaning}
