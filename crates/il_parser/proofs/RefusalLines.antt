-- A refusal stands on one of the lines of its text, or on the one after them.
use Rattle.std.proofs.Common.{◌≡◌, ◌+◌, ◌≤◌, ◌==◌, ℕ, List, ap, length, take, arith}
use Rattle.std.proofs.lemmas.List.{length-take}
use Rattle.std.proofs.lemmas.List.Sums.{count_by-le-length}
use Rattle.il_grammar.specs.declared.rule.Rule.{Rule}
use Rattle.il_lexer.specs.Place.{line_of}
use Rattle.il_reader.specs.Refusal.{Refusal, refusal_at}
use Rattle.il_reader.specs.Text.{IsFormRefusal, foreign, headless, faulty}
use Rattle.il_parser.specs.Text.{IsFirstRefusal, malformed, misnamed}

line_at_most : (bytes : List ℕ) (rule : Rule) (at : ℕ) (r : Refusal Rule) → r ≡ refusal_at bytes rule at → r.line ≤ length bytes + 1
line_at_most bytes rule at r is =
    let lines : r.line ≡ line_of bytes at = ap (λ x. x.line) is in
    omega (arith, lines, count_by-le-length (λ b. b == 10) (take at bytes), length-take at bytes)

form_line : (bytes : List ℕ) (r : Refusal Rule) → IsFormRefusal bytes r → r.line ≤ length bytes + 1
form_line bytes r (foreign at found is) = line_at_most bytes _ _ r is
form_line bytes r (headless tokens stop pure lexed none is) = line_at_most bytes _ _ r is
form_line bytes r (faulty tokens stop rest f pure lexed headed first is) = line_at_most bytes _ _ r is

pub refusal_line : (bytes : List ℕ) (r : Refusal Rule) → IsFirstRefusal bytes r → r.line ≤ length bytes + 1
refusal_line bytes r (malformed form) = form_line bytes r form
refusal_line bytes r (misnamed tree f written found is) = line_at_most bytes _ _ r is
