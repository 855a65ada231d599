-- What the proofs of other crates use.
pub use Rattle.replay.proofs.OneVerdict.{entries_have_no_reason, first_reasons_one, first_nots_cut, first_nots_no_runs, verdicts_one}
pub use Rattle.replay.proofs.EachVerdict.{no_journal_lacks_a_verdict}
