use Rattle.std.proofs.Common.{length, ◌-◌, ◌≤◌, List, drop}
use Rattle.il_lexer.specs.declared.token.Token.{Token}
use Rattle.il_lexer.specs.Text.{Rest, Lexes}
use Rattle.il_lexer.proofs.scanner.skip_blanks.Given as goal

abbrev pub invariant-loop-at : goal.invariant-loop-at
invariant-loop-at l = record {
  after : l.from ≤ l.at;
  within : l.at ≤ length l.bytes;
  passed : (ts : List Token) (stop : Rest) → Lexes l.at (drop l.at l.bytes) ts stop → Lexes l.from (drop l.from l.bytes) ts stop;
}

abbrev pub decreases-loop-at : goal.decreases-loop-at
decreases-loop-at l = length l.bytes - l.at
