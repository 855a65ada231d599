-- What the proofs of other crates use.
pub use Rattle.thread_core.proofs.Keeping.{next_proper, begun_proper, advanced_proper, resumed_proper}
pub use Rattle.thread_core.proofs.WellFormedProper.{well_formed_proper}
pub use Rattle.thread_core.proofs.EachHead.{HasEachFrame, HasEach, each_begun, each_advanced, each_resumed}
pub use Rattle.thread_core.proofs.Asking.{asks_by_head, set_others, told_others}
pub use Rattle.thread_core.proofs.Silent.{silent_more, after_more, one_more_silent, after_one_more}
pub use Rattle.thread_core.proofs.Opened.{some_from}
pub use Rattle.thread_core.proofs.Budgets.{within_some, within_none, within_silent, within_spent, within_finish}
pub use Rattle.thread_core.proofs.Placing.{proper_more, function_proper, call_few}
pub use Rattle.thread_core.proofs.Calling.{length-loaded, code_is, result_is, same_lengths, asked_same, goes_past}
