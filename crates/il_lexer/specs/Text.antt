-- The tokens of a text, with what lies between them.
use Rattle.std.specs.Prelude.{◌≡◌, ◌≢◌, ℕ, ◌+◌, List, [], ◌∷◌, ◌++◌, length, Option, Some, None, Bool, true, false, ◌==◌, ◌||◌, not, nat_le, ◌&&◌}
use Rattle.std.specs.List.{list_all}
use Rattle.il_lexer.specs.declared.token.Token.{Token}
use Rattle.il_lexer.specs.declared.token.TokenKind.{TokenKind}
use Rattle.il_lexer.specs.Lexeme.{is_lexeme, IsLongest, BeginsNoToken}

-- a byte that no text has, in a comment either
abbrev pub is_foreign : ℕ → Bool
is_foreign b = not (b == 9 || (b == 10 || (b == 13 || (nat_le 32 b && nat_le b 126))))

abbrev pub is_blank : ℕ → Bool
is_blank b = b == 32 || (b == 10 || (b == 9 || b == 13))

-- the text ends here, or the line does
abbrev pub EndsLine : List ℕ → Type 0
EndsLine [] = Unit {0}
EndsLine (b ∷ bs) = b ≡ 10

abbrev pub in_line : ℕ → Bool
in_line b = not (b == 10)

-- what is left after the tokens: nothing, or the text from a byte on that begins no token
pub data Rest : Type 0 where
  at_end : Rest
  stopped_at : ℕ → Rest

-- The bytes from a place on are these tokens, with blanks and comments round them, up to the stop.
pub data Lexes : ℕ → List ℕ → List Token → Rest → Type 0 where
  ended : {at : ℕ} → Lexes at [] [] at_end
  unknown : {at b : ℕ} {bytes : List ℕ} → is_blank b ≡ false → b ≢ 35 → BeginsNoToken (b ∷ bytes)
      → Lexes at (b ∷ bytes) [] (stopped_at at)
  blank : {at b : ℕ} {bytes : List ℕ} {ts : List Token} {stop : Rest} → is_blank b ≡ true
      → Lexes (at + 1) bytes ts stop → Lexes at (b ∷ bytes) ts stop
  comment : {at : ℕ} {all : List ℕ} {ts : List Token} {stop : Rest} (note rest : List ℕ)
      → all ≡ 35 ∷ (note ++ rest) → list_all in_line note ≡ true → EndsLine rest
      → Lexes (at + 1 + length note) rest ts stop → Lexes at all ts stop
  token : {at : ℕ} {all : List ℕ} {ts : List Token} {stop : Rest} {kind : TokenKind} (text rest : List ℕ)
      → all ≡ text ++ rest → is_lexeme kind text ≡ true → IsLongest text rest
      → Lexes (at + length text) rest ts stop
      → Lexes at all (record { kind = kind; start = at; end = at + length text } ∷ ts) stop

abbrev pub rest_of : Option ℕ → Rest
rest_of None = at_end
rest_of (Some at) = stopped_at at
