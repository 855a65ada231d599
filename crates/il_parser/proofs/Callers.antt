-- What proofs of other crates use.
pub use Rattle.il_parser.proofs.Single.{each_answer, one_first, one_program, spelled_unrefused}
pub use Rattle.il_parser.proofs.WellFormed.{spelled_well_formed}
pub use Rattle.il_parser.proofs.RefusalLines.{refusal_line}
