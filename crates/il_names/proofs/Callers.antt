-- What proofs of other crates use.
pub use Rattle.il_names.proofs.Lists.{none_in_both, none_in_five, none_in_four, none_in_three}
pub use Rattle.il_names.proofs.Walking.{snoc_length_snoc}
