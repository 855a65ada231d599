-- What a caller's proof needs of this crate.
pub use Rattle.dead_store.proofs.UndeadLaws.{undead_is_one, undead_fits}
pub use Rattle.dead_store.proofs.OverwrittenLaws.{step_monotone, must_bounded, fold_overwritten, fold_stored}
