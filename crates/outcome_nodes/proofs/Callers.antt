-- What the proofs of other crates use.
pub use Rattle.outcome_nodes.proofs.Entries.{silent_has, Spends, Makes, EntryDone, entry_done}
pub use Rattle.outcome_nodes.proofs.Appending.{told_more, used_parts, end_or_not}
pub use Rattle.outcome_nodes.proofs.Rooms.{has_steps, few_steps, IsPrepared, prepared_moved, prepared_same}
pub use Rattle.outcome_nodes.proofs.Reaching.{entry_of_access, state_of_access, access_entry}
pub use Rattle.outcome_nodes.proofs.Ending.{ended_with}
pub use Rattle.outcome_nodes.proofs.Telling.{nodes_told}
pub use Rattle.outcome_nodes.proofs.Shown.{of_failed_run, of_ended_run, shown_are_outcomes}
pub use Rattle.outcome_nodes.proofs.Trying.{one_node, node_run, first_run, steps_are, is_legal, is_move, goes_on, fails_in}
