-- What the proofs of other crates use.
pub use Rattle.walker.proofs.DrawnLemmas.{draws_drawn, picks_picked, word_after, length_after, state_threads}
pub use Rattle.walker.proofs.Determined.{determined}
pub use Rattle.walker.proofs.Bounds.{entry_within, first_within}
pub use Rattle.walker.proofs.Events.{event_is, event_chosen, event_asked, atomic_is}
pub use Rattle.view_machine.proofs.Callers.{silent_ended, entry_notes}
