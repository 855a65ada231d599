-- What proofs of other crates use.
pub use Rattle.litmus_text.proofs.OneInput.{one_input, input_unrefused, one_refusal}
pub use Rattle.litmus_text.proofs.EachInput.{each_input}
pub use Rattle.litmus_text.proofs.Verdicts.{all_more, verdicts_more}
