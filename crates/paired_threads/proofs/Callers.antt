-- What a caller's proof needs: how a thread of a target and that of its source go on beside each other.
pub use Rattle.paired_threads.proofs.Beside.{AtHead, at_end, at_same, at_turned, at_removed, at_inserted, at_head}
pub use Rattle.paired_threads.proofs.Below.{set_same, set_other, below_at, atom_below}
pub use Rattle.paired_threads.proofs.GoOn.{pairs_go_on}
pub use Rattle.paired_threads.proofs.FactLaws.{facts_begin, facts_go, owed_before}
pub use Rattle.paired_threads.proofs.Calls.{calls_begin_paired, results_are_below}
pub use Rattle.paired_threads.proofs.Working.{asks_not_silent}
pub use Rattle.paired_threads.proofs.Stacks.{called_paired, some_of, same_next, end_next, same_silent, end_silent}
pub use Rattle.paired_threads.proofs.Stepping.{same_event, inserted_step, turned_step, removed_step}
