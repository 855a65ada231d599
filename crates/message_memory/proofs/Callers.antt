-- What a caller's proof needs: steps, histories, candidates, and what is known of one location.
-- one step
pub use Rattle.message_memory.proofs.StepLaws.{failures_fail, fails_exactly, failures_alone, outputs_grow, keep_well_formed, keep_closed, keep_locations, newest_chosen, stay_near, grow, choices_have_form, plain_legal, no_step, one_result}
pub use Rattle.message_memory.proofs.StepLemmas.{not_over, sorted_inserted, some_from_and, found_within, last_to-inserted, all_inserted, all_found, top_times-na, top_times-at}
pub use Rattle.message_memory.proofs.EventKinds.{events_of_kind, stores_one_higher, proper_same, leaves_atomic, atomic_leaves, plain_leaves}
-- things in pairs
pub use Rattle.message_memory.proofs.InPairs.{cond_related, zip_more, some_and, and_some}
-- histories
pub use Rattle.message_memory.proofs.HistoryLemmas.{all_at, call_made, step_choice, one_after, histories_split, histories_go_on, state_after-append, well_formed_after, well_formed_calls, initial_state_well_formed}
pub use Rattle.message_memory.proofs.InitialLemmas.{initial_well_formed, initial_locations}
pub use Rattle.message_memory.proofs.Runs.{failures_last, outputs_printed, versions_count, versions_few, timestamps_few, views_wait, calls_by-append, calls_by-own, calls_by-other}
pub use Rattle.message_memory.proofs.Ends.{views_many, locations_many, failed_ends, fails_with_last, steps_calls, own_first, other_first, none_between}
-- candidates
pub use Rattle.message_memory.proofs.CandidateLemmas.{candidates_some, candidates_legal}
pub use Rattle.message_memory.proofs.CandidateWalk.{length-choices_from}
-- one location
pub use Rattle.message_memory.proofs.OneLocation.{locations_kept, views_rise, views_within, views_kept, messages_know, raised_atomic, parts_ordered}
pub use Rattle.message_memory.proofs.Alone.{stores_make_alone, others_keep_alone, own_steps_keep_alone, others_keep_reads, own_steps_keep_reads, others_keep_facts, store_made, writes_current}
pub use Rattle.message_memory.proofs.OneViewLemmas.{choices_of_one_view, results_of_one_view}
