-- What proofs of other crates use.
pub use Rattle.pair_text.proofs.OneAnswer.{one_pair, one_pair_refusal, pair_unrefused, same_texts, texts_unrefused, one_texts_refusal}
pub use Rattle.pair_text.proofs.EachInput.{each_pair, each_texts}
