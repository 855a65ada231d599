-- How a text divides at the first of its lines that is a given word.
use Rattle.std.specs.Prelude.{◌≡◌, ◌≢◌, ◌++◌, ◌&&◌, not, Bool, true, List, []}
use Rattle.std.specs.List.{flat_map, list_all}
use Rattle.std.specs.Str.{bytes_eq}
use Rattle.text_parts.specs.Lines.{Text, has_no_newline, whole_line}

-- a line, without its newline, that isn't the word
abbrev pub is_line_but : Text → Text → Bool
is_line_but word line = has_no_newline line && not (bytes_eq line word)

-- a text is whole lines, and none of them is the word
pub record HasLinesBut (word text : Text) : Type 0 where
  pub lines : List Text
  pub is : text ≡ flat_map whole_line lines
  pub others : list_all (is_line_but word) lines ≡ true

-- the text before the first whole line that is the word, and the text after that line
pub record DividesAtWholeLine (word text before after : Text) : Type 0 where
  pub is : text ≡ before ++ (whole_line word ++ after)
  pub plain : has_no_newline word ≡ true
  pub first : HasLinesBut word before

-- no whole line of a text is the word; a last piece without its newline is none
pub record LacksWholeLine (word text : Text) : Type 0 where
  pub front : Text
  pub piece : Text
  pub is : text ≡ front ++ piece
  pub others : HasLinesBut word front
  pub unfinished : has_no_newline piece ≡ true

-- The text before the first line that is the word, and the text after that line. The newline of a text's last line may be
-- missing.
pub data DividesAtLine (word text before after : Text) : Type 0 where
  at_line : DividesAtWholeLine word text before after → DividesAtLine word text before after
  at_end : HasLinesBut word before → has_no_newline word ≡ true → text ≡ before ++ word → after ≡ [] → DividesAtLine word text before after

-- no whole line of a text is the word, and neither is a last piece without its newline
pub record LacksLine (word text : Text) : Type 0 where
  pub lacks : LacksWholeLine word text
  pub differs : lacks.piece ≢ word

-- what the search for the line knows

-- whole lines that aren't the word come before the rest of a text
pub record IsPast (word text rest : Text) : Type 0 where
  pub front : Text
  pub is : text ≡ front ++ rest
  pub others : HasLinesBut word front

-- the rest begins with a whole line that is the word, or has no whole line
pub data StopsAt (word rest : Text) : Type 0 where
  at_word : (after : Text) → has_no_newline word ≡ true → rest ≡ whole_line word ++ after → StopsAt word rest
  at_piece : has_no_newline rest ≡ true → StopsAt word rest
