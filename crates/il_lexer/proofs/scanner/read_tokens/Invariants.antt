use Rattle.std.proofs.Common.{length, ◌-◌, ◌≤◌, ◌<◌, ◌≡◌, ◌≢◌, List, ◌++◌, drop, get_or, false}
use Rattle.il_lexer.specs.declared.token.Token.{Token}
use Rattle.il_lexer.specs.Text.{Rest, Lexes, is_blank}
use Rattle.il_lexer.proofs.scanner.read_tokens.Given as goal

abbrev pub invariant-loop-at : goal.invariant-loop-at
invariant-loop-at l = record {
  within : l.at ≤ length l.bytes;
  blank : l.at < length l.bytes → is_blank (get_or l.bytes l.at 0) ≡ false;
  comment : l.at < length l.bytes → get_or l.bytes l.at 0 ≢ 35;
  read : (ts : List Token) (stop : Rest) → Lexes l.at (drop l.at l.bytes) ts stop → Lexes 0 l.bytes (l.tokens.items ++ ts) stop;
}

abbrev pub decreases-loop-at : goal.decreases-loop-at
decreases-loop-at l = length l.bytes - l.at
