-- What proofs of other crates use.
pub use Rattle.text_parts.proofs.CutLines.{same_first, same_line}
pub use Rattle.text_parts.proofs.FirstLines.{line_at, line_whole}
pub use Rattle.text_parts.proofs.NextLines.{HasLine, after_shorter, next_of}
-- whole lines that aren't the word
pub use Rattle.text_parts.proofs.OtherLines.{both_lines, no_lines, one_line, other_line}
-- divisions
pub use Rattle.text_parts.proofs.Dividing.{never_lacks, never_lacks_whole, one_division, one_whole_division}
pub use Rattle.text_parts.proofs.EachDivision.{each_division, each_whole_division}
pub use Rattle.text_parts.proofs.Bounds.{few_newlines, short_parts, short_whole_parts}
