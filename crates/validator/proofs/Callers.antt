-- What the proofs of other crates may use of this one.
pub use Rattle.il_paths.proofs.Callers.{length-heads_in}
pub use Rattle.validator.proofs.Accepting.{accepted}
pub use Rattle.validator.proofs.HeadLaws.{Means, role_means}
pub use Rattle.validator.proofs.NeedLaws.{head_at}
pub use Rattle.validator.proofs.VisitLaws.{AllVisits, all_join, all_runs, all_first, stands_next, visited_head}
pub use Rattle.validator.proofs.FirstFaults.{one_first_fault, one_first_refused, none_refused}
pub use Rattle.validator.proofs.JudgeLaws.{if_ok}
pub use Rattle.validator.proofs.FaultLaws.{same_turned}
pub use Rattle.validator.proofs.EachJudged.{same_removed}
pub use Rattle.validator.proofs.BesideLaws.{removed_inserted, load_register, same_inserted}
pub use Rattle.validator.proofs.MergedLaws.{same_kept}
