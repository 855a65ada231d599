-- What proofs of other crates use.
pub use Rattle.il_lexer.proofs.LayoutLemmas.{among, laid_lexes}
pub use Rattle.il_lexer.proofs.Unique.{one_reading}
pub use Rattle.il_lexer.proofs.Total.{each_text_lexes}
pub use Rattle.il_lexer.proofs.SlicesLemmas.{slices}
