-- What the proofs of other crates may use of this one.
pub use Rattle.forwarding.proofs.ForwardLaws.{forwarded_is_one}
pub use Rattle.forwarding.proofs.ForwardFits.{forwarded_fits}
