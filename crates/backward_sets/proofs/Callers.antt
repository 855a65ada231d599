-- What the proofs of other crates may use of this one.
pub use Rattle.backward_sets.proofs.TurnLaws.{found_now, taken_first, in_parts}
