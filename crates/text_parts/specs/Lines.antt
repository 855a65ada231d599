-- Texts as lines.
use Rattle.std.specs.Prelude.{◌≡◌, ◌≢◌, ◌≤◌, ◌⊎◌, ◌==◌, ◌++◌, ℕ, Bool, true, not, List, [], ◌∷◌, length, take, drop, codes, count_by}
use Rattle.std.specs.List.{list_all}

-- the bytes of a word, a line or a text
abbrev pub Text : Type 0
Text = List ℕ

-- a line with its newline
abbrev pub whole_line : Text → Text
whole_line text = text ++ codes "\n"

abbrev pub has_no_newline : Text → Bool
has_no_newline = list_all (λ b. not (b == 10))

-- how many lines end in a text
abbrev pub newlines : Text → ℕ
newlines = count_by (λ b. b == 10)

-- the text is at its end or at the end of a line
abbrev pub IsLineEnd : Text → Type 0
IsLineEnd [] = Unit {0}
IsLineEnd (b ∷ bs) = b ≡ 10

-- the first line of the text is its first n bytes
pub record IsFirstLine (text : Text) (n : ℕ) : Type 0 where
  pub within : n ≤ length text
  pub ends : IsLineEnd (drop n text)
  pub clean : has_no_newline (take n text) ≡ true

-- the first line of a text without its newline, which may be missing, and what comes after it
pub record IsNextLine (text line after : Text) : Type 0 where
  pub clean : has_no_newline line ≡ true
  pub goes_on : text ≢ []
  pub is : (text ≡ whole_line line ++ after) ⊎ ((text ≡ line) × (after ≡ []))
