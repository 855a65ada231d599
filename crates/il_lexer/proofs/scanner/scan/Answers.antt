use Rattle.std.proofs.Common.{◌≡◌, ℕ, List, Result, Ok, Err, IfOk}
use Rattle.il_lexer.specs.declared.scanner.Lexed.{Lexed}
use Rattle.il_lexer.specs.declared.token.Token.{Token}
use Rattle.il_lexer.specs.Text.{Rest, Lexes, rest_of}
use Rattle.il_lexer.proofs.Unique.{one_reading}
use Rattle.il_lexer.proofs.scanner.scan.Goals as goal

only : {E : Type 0} (r : Result Lexed E) (bytes : List ℕ) (ts : List Token) (rest : Rest) → IfOk r (λ x. Lexes 0 bytes x.tokens (rest_of x.unknown)) → Lexes 0 bytes ts rest → IfOk r (λ x. (x.tokens ≡ ts) × (rest_of x.unknown ≡ rest))
only (Ok x) bytes ts rest l l' = one_reading l l'
only (Err e) bytes ts rest l l' = tt

pub returns-clause-only : goal.returns-clause-only
returns-clause-only c ts rest l = only c.read_tokens.result c.args.bytes.now ts rest c.read_tokens.ensures l
