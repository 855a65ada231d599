-- What proofs of other crates use.
pub use Rattle.il_reader.proofs.Numbers.{greatest}
pub use Rattle.il_reader.proofs.Single.{one_refusal, one_text, written_unrefused}
pub use Rattle.il_reader.proofs.Named.{lexed_whole, named_placed}
pub use Rattle.il_reader.proofs.Total.{each_text}
pub use Rattle.il_reader.proofs.Words.{name_is_not_reserved, other_word_is_a_name}
pub use Rattle.il_reader.proofs.Places.{HasPlace, no_place, own_place, place_of_kind, span_of, symbol_place, word_place}
-- the clauses of a reader
pub use Rattle.il_reader.proofs.Answered.{found, first, fitting, only, exact}
