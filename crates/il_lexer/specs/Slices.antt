-- Tokens as slices of the text, with blanks and comments between them.
use Rattle.std.specs.Prelude.{◌≡◌, ℕ, ◌<◌, ◌≤◌, List, [], ◌∷◌, ◌++◌, length, drop, slice_range, true}
use Rattle.std.specs.List.{list_all}
use Rattle.il_lexer.specs.declared.token.Token.{Token}
use Rattle.il_lexer.specs.Lexeme.{is_lexeme, IsLongest}
use Rattle.il_lexer.specs.Text.{is_blank, in_line, EndsLine, Rest, at_end, stopped_at}

-- blanks and comments, with these bytes behind them: a comment goes on to the end of its line
pub data AreBlanks (behind : List ℕ) : List ℕ → Type 0 where
  nothing : AreBlanks behind []
  blank : {b : ℕ} {bytes : List ℕ} → is_blank b ≡ true → AreBlanks behind bytes → AreBlanks behind (b ∷ bytes)
  comment : (note rest : List ℕ) → list_all in_line note ≡ true → EndsLine (rest ++ behind) → AreBlanks behind rest → AreBlanks behind (35 ∷ (note ++ rest))

-- the token is a slice of the text, is spelled as its kind says, and goes on as far as it can
pub record IsTokenOf (bytes : List ℕ) (token : Token) : Type 0 where
  pub some : token.start < token.end
  pub within : token.end ≤ length bytes
  pub spelled : is_lexeme token.kind (slice_range bytes token.start token.end) ≡ true
  pub longest : IsLongest (slice_range bytes token.start token.end) (drop token.end bytes)

-- from a place on up to another, the text is these tokens, in order, and blanks and comments round them
abbrev pub AreTokensOf : List ℕ → ℕ → List Token → ℕ → Type 0
AreTokensOf bytes from [] to = (from ≤ to) × AreBlanks (drop to bytes) (slice_range bytes from to)
AreTokensOf bytes from (t ∷ ts) to =
    (from ≤ t.start) × AreBlanks (drop t.start bytes) (slice_range bytes from t.start) × IsTokenOf bytes t × AreTokensOf bytes t.end ts to

-- the end of the text, or the byte that begins no token
abbrev pub end_of : List ℕ → Rest → ℕ
end_of bytes at_end = length bytes
end_of bytes (stopped_at at) = at
