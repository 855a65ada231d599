-- What proofs of other crates use.
pub use Rattle.token_machine.proofs.Faults.{answer_spells, one_fault, one_tree, spelled_faultless, spelled_or_faulty, spells_answer}
pub use Rattle.token_machine.proofs.Answer.{exact, found, only, refused}
pub use Rattle.token_machine.proofs.Mapped.{answer_mapped}
