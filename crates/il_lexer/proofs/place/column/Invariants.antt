use Rattle.std.proofs.Common.{◌≡◌, ◌≤◌, ◌+◌, take}
use Rattle.std.specs.List.{suffix_len}
use Rattle.il_lexer.specs.Text.{in_line}
use Rattle.il_lexer.proofs.place.column.Given as goal

abbrev pub invariant-loop-byte : goal.invariant-loop-byte
invariant-loop-byte l = record {
  small : l.column ≤ l.byte-index + 1;
  counted : l.column ≡ suffix_len in_line (take l.byte-index l.byte-items) + 1;
}
