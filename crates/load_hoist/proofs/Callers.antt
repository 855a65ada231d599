-- What the proofs of other crates may use of this one.
pub use Rattle.load_hoist.proofs.HoistLaws.{hoisted_pairs_are_known}
pub use Rattle.load_hoist.proofs.IntroducedLaws.{introduced_is_well_hoisted}
pub use Rattle.load_hoist.proofs.IntroducedFits.{introduced_is_one, introduced_fits, gives_below, introduced_count, introduced_more, introduced_grown}
