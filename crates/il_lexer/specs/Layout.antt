-- A text that is laid out from tokens and what stands after each.
use Rattle.std.specs.Prelude.{◌≡◌, ℕ, ◌+◌, List, [], ◌∷◌, ◌++◌, length, true, false}
use Rattle.std.specs.List.{list_all}
use Rattle.il_lexer.specs.declared.token.Token.{Token}
use Rattle.il_lexer.specs.declared.token.TokenKind.{TokenKind}
use Rattle.il_lexer.specs.declared.token.TokenKind.TheVariants.{Word, Number, Symbol}
use Rattle.il_syntax.specs.Name.{is_digit, is_word_byte}
use Rattle.il_lexer.specs.Lexeme.{is_double, is_lexeme}
use Rattle.il_lexer.specs.Text.{is_blank}

-- a token's text, and the blanks after it
pub record Printed : Type 0 where
  pub kind : TokenKind
  pub text : List ℕ
  pub blanks_after : List ℕ

abbrev pub rendered : List Printed → List ℕ
rendered [] = []
rendered (p ∷ ps) = p.text ++ (p.blanks_after ++ rendered ps)

abbrev pub tokens_from : ℕ → List Printed → List Token
tokens_from at [] = []
tokens_from at (p ∷ ps) = record { kind = p.kind; start = at; end = at + length p.text } ∷ tokens_from (at + length p.text + length p.blanks_after) ps

-- what follows a token's text does not go on with it
abbrev pub IsSeparated : TokenKind → List ℕ → List ℕ → Type 0
IsSeparated kind text [] = Unit {0}
IsSeparated Word text (c ∷ rest) = is_word_byte c ≡ false
IsSeparated Number text (c ∷ rest) = is_digit c ≡ false
IsSeparated Symbol [] (c ∷ rest) = Unit {0}
IsSeparated Symbol (b ∷ []) (c ∷ rest) = is_double b c ≡ false
IsSeparated Symbol (b ∷ d ∷ text) (c ∷ rest) = Unit {0}

abbrev pub IsLaidOut : List Printed → Type 0
IsLaidOut [] = Unit {0}
IsLaidOut (p ∷ ps) = (is_lexeme p.kind p.text ≡ true) × (list_all is_blank p.blanks_after ≡ true) × IsSeparated p.kind p.text (p.blanks_after ++ rendered ps) × IsLaidOut ps
