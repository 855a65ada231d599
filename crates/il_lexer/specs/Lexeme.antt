-- What a token is spelled with.
use Rattle.std.specs.Prelude.{◌≡◌, ℕ, suc, List, [], ◌∷◌, ◌++◌, Option, Some, None, Bool, true, false, ◌==◌, ◌&&◌, ◌||◌, if◌then◌else◌, codes}
use Rattle.std.specs.List.{list_all, list_any, prefix_len}
use Rattle.il_syntax.specs.Name.{is_letter, is_digit, is_word_byte}
use Rattle.il_lexer.specs.declared.token.TokenKind.{TokenKind}
use Rattle.il_lexer.specs.declared.token.TokenKind.TheVariants.{Word, Number, Symbol}

-- the symbols of one byte
abbrev pub is_single : ℕ → Bool
is_single b = list_any (λ s. s == b) (codes "(){},;=+-*/%&|^<")

-- `==`, `!=` and `<=`
abbrev pub is_double : ℕ → ℕ → Bool
is_double b c = c == 61 && (b == 61 || (b == 33 || b == 60))

-- the bytes are a token of this kind
abbrev pub is_lexeme : TokenKind → List ℕ → Bool
is_lexeme Word [] = false
is_lexeme Word (b ∷ bs) = is_letter b && list_all is_word_byte bs
is_lexeme Number [] = false
is_lexeme Number (b ∷ bs) = is_digit b && list_all is_digit bs
is_lexeme Symbol [] = false
is_lexeme Symbol (b ∷ []) = is_single b
is_lexeme Symbol (b ∷ c ∷ []) = is_double b c
is_lexeme Symbol (b ∷ c ∷ d ∷ bs) = false

-- no token begins here
abbrev pub BeginsNoToken : List ℕ → Type 0
BeginsNoToken bytes = (kind : TokenKind) (text rest : List ℕ) → bytes ≡ text ++ rest → is_lexeme kind text ≡ true → ⊥

-- no token begins here that is longer than this one
abbrev pub IsLongest : List ℕ → List ℕ → Type 0
IsLongest text rest = (kind : TokenKind) (c : ℕ) (more others : List ℕ) → rest ≡ c ∷ (more ++ others) → is_lexeme kind (text ++ c ∷ more) ≡ true → ⊥

-- the token that is taken
abbrev pub single_of : ℕ → Option (TokenKind × ℕ)
single_of b = if is_single b then Some (Symbol, 1) else None

abbrev pub symbol_of : ℕ → List ℕ → Option (TokenKind × ℕ)
symbol_of b [] = single_of b
symbol_of b (c ∷ cs) = if is_double b c then Some (Symbol, 2) else single_of b

unfoldable pub lexeme_of : List ℕ → Option (TokenKind × ℕ)
lexeme_of [] = None
lexeme_of (b ∷ bs) =
    if is_letter b then Some (Word, suc (prefix_len is_word_byte bs))
    else if is_digit b then Some (Number, suc (prefix_len is_digit bs))
    else symbol_of b bs
