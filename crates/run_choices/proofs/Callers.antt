-- What the proofs of other crates use.
pub use Rattle.run_choices.proofs.Appending.{used_more, ended_more, spent_more, fails_more, one_any}
pub use Rattle.run_choices.proofs.Ends.{finished_unspent, finished_unfailed, spend_ends}
