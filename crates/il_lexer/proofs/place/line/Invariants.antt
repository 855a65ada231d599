use Rattle.std.proofs.Common.{◌≡◌, ◌≤◌, ◌+◌, ◌==◌, take, count_by}
use Rattle.il_lexer.proofs.place.line.Given as goal

abbrev pub invariant-loop-byte : goal.invariant-loop-byte
invariant-loop-byte l = record {
  small : l.line ≤ l.byte-index + 1;
  counted : l.line ≡ count_by (λ b. b == 10) (take l.byte-index l.byte-items) + 1;
}
