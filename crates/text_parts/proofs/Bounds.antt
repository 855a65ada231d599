-- The parts of a text are short, and their lines few.
use Rattle.std.proofs.Common.{◌+◌, ◌≤◌, ◌==◌, ap, [], ◌++◌, length, arith}
use Rattle.std.proofs.lemmas.List.{length-append}
use Rattle.std.proofs.lemmas.List.Sums.{count_by-le-length}
use Rattle.text_parts.specs.Lines.{Text, newlines, whole_line}
use Rattle.text_parts.specs.Division.{DividesAtLine, DividesAtWholeLine, at_line, at_end}

pub few_newlines : (text : Text) → newlines text ≤ length text
few_newlines text = count_by-le-length (λ b. b == 10) text

-- the parts are shorter than the text by the line between them

pub short_whole_parts : (word text before after : Text) → DividesAtWholeLine word text before after → length before + (length word + 1) + length after ≤ length text
short_whole_parts word text before after h =
    omega (arith, ap length h.is, length-append before (whole_line word ++ after), length-append (whole_line word) after, length-append word (whole_line []))

pub short_parts : (word text before after : Text) → DividesAtLine word text before after → length before + length word + length after ≤ length text
short_parts word text before after (at_line h) = let short = short_whole_parts word text before after h in omega arith
short_parts word text before after (at_end h plain is none) = omega (arith, ap length is, length-append before word, ap length none)
