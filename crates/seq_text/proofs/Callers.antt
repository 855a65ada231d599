-- What proofs of other crates use.
pub use Rattle.seq_text.proofs.OneSession.{one_session, session_unrefused, one_session_refusal}
pub use Rattle.seq_text.proofs.EachSession.{each_session}
