-- What a caller's proof needs: the words that are drawn, and that what is chosen is a candidate.
pub use Rattle.chooser.proofs.Words.{first_word, next_word, chosen_candidate}
