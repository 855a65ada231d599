-- Lines and columns, each from 1. A line ends at byte 10, and columns count bytes.
use Rattle.std.specs.Prelude.{ℕ, ◌+◌, List, ◌==◌, take, count_by}
use Rattle.std.specs.List.{suffix_len}
use Rattle.il_lexer.specs.Text.{in_line}

-- the line of a place: one more than the ends of lines before it
abbrev pub line_of : List ℕ → ℕ → ℕ
line_of bytes at = count_by (λ b. b == 10) (take at bytes) + 1

-- the column of a place: one more than the bytes before it in its line, which are counted back to the end of the line before
abbrev pub column_of : List ℕ → ℕ → ℕ
column_of bytes at = suffix_len in_line (take at bytes) + 1
