-- What proofs of other crates use.
pub use Rattle.litmus_session.proofs.Fixed.{verdicts_fixed}
