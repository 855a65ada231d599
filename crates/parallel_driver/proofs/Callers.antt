-- What the proofs of other crates use.
pub use Rattle.parallel_driver.proofs.NeighbourLaws.{chains_are_accepted}
