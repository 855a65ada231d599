-- What the proofs of other crates may use of this one.
pub use Rattle.acceptance.proofs.Forwarding.{known_loads_are_accepted, forwarded_is_accepted}
pub use Rattle.acceptance.proofs.Removal.{dead_stores_are_accepted, undead_is_accepted}
pub use Rattle.acceptance.proofs.Growth.{new_loads_are_accepted}
pub use Rattle.acceptance.proofs.Introduction.{introduced_is_accepted}
