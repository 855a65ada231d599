-- What the proofs of other crates use.
pub use Rattle.exec_graph.proofs.OneGraph.{one_reads, one_races}
pub use Rattle.exec_graph.proofs.EachGraph.{none_lacks_reads, none_lacks_races}
