-- What proofs of other crates use.
pub use Rattle.replay_text.proofs.OneAnswer.{one_refusal, one_replay, replay_unrefused}
pub use Rattle.replay_text.proofs.ReadBack.{report_read}
pub use Rattle.replay_text.proofs.EachInput.{each_input}
