-- What a caller's proof needs: how memories and views stay related, access by access.
pub use Rattle.memory_relation.proofs.Owners.{goes_on}
pub use Rattle.memory_relation.proofs.NonAtomic.{reads_below}
pub use Rattle.memory_relation.proofs.Stores.{pending_follows, stores_removed}
pub use Rattle.memory_relation.proofs.Openings.{openings_related}
pub use Rattle.memory_relation.proofs.States.{accesses_answered}
