-- What the proofs of other crates use of this one.
pub use Rattle.tidy.proofs.AtomLaws.{reads_put, gives_put}
pub use Rattle.tidy.proofs.SideBySide.{beside_join, AtHead, at_end, at_visits, at_head, same_sites, placed_beside, head_next, no_head, ends_code}
pub use Rattle.tidy.proofs.OnRuns.{one_more, stands_at, next_accepted, known_here, unwanted_here, known_at_end, known_more}
pub use Rattle.tidy.proofs.Cleared.{assigned_gives}
