-- What a caller's proof needs: how journals refine, and how a run of another program comes to be playable.
pub use Rattle.refinement.proofs.Refining.{refines_refl, refines_trans, failures_kept}
pub use Rattle.refinement.proofs.Counting.{runs_stop}
pub use Rattle.refinement.proofs.Ends.{failing_ends}
pub use Rattle.refinement.proofs.EventsPlayed.{plays_access, load_head, event_read, event_goes}
pub use Rattle.refinement.proofs.RunsPlayed.{run_played}
pub use Rattle.refinement.proofs.Traces.{zip_begins}
