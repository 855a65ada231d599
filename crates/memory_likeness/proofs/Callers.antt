-- What the proofs of other crates use: how accesses are followed, and what becomes of memories and steps whose timestamps are moved.
pub use Rattle.memory_likeness.proofs.Answers.{accesses_followed}
pub use Rattle.memory_likeness.proofs.Steps.{other_flags}
pub use Rattle.memory_likeness.proofs.Opening.{openings_alike}
pub use Rattle.memory_likeness.proofs.Moving.{opened_rises}
pub use Rattle.memory_likeness.proofs.MovedTimes.{view_same, stamp_rises}
pub use Rattle.memory_likeness.proofs.MovedMessages.{moved_message, message_same, memory_same, length-moved_memory, messages_moved, map_each}
pub use Rattle.memory_likeness.proofs.MovedSteps.{steps_moved}
pub use Rattle.memory_likeness.proofs.Room.{some_here}
