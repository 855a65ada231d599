-- What proofs of other crates use.
pub use Rattle.seq_session.proofs.OneAnswer.{one_seq_answer}
