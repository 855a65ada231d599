-- What the proofs of other crates use.
pub use Rattle.view_machine.proofs.Propers.{proper_in}
pub use Rattle.view_machine.proofs.RunLaws.{silent_more, after_silent-more, silent_memory, spend_is, failure_last, runs_join, runs_cut, states_split, run_goes_on}
pub use Rattle.view_machine.proofs.Reached.{initial_memories, initial_reached, step_reached, silent_reached, event_reached, run_reached, states_whole, length_values}
pub use Rattle.view_machine.proofs.Versions.{versions_are_few, runs_have_room}
pub use Rattle.view_machine.proofs.Merging.{local_same, going_with, silent_step, access_step, step_legal, access_made, silent_steps_local, merged, merged_leads, ask_before}
pub use Rattle.view_machine.proofs.Counting.{note_there, entries_of_threads, runs_short}
pub use Rattle.view_machine.proofs.Asking.{has_access}
pub use Rattle.view_machine.proofs.Ends.{ends_is, silent_views, silent_ended, silent_threads, entry_threads, entry_there, entry_notes, entry_fails, entry_going, stays_ended, ends_here, none_later, end_last, event_there}
pub use Rattle.values_undef.proofs.Callers.{all_get}
