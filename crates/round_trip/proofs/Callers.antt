-- What proofs of other crates use.
pub use Rattle.round_trip.proofs.Whole.{canonical_text_spells}
