-- Whole lines, none of which is the word.
use Rattle.std.proofs.Common.{◌≡◌, ◌∙◌, ◌-◌, sym, ap, subst, refl, Bool, true, false, not, [], ◌∷◌, ◌++◌, length, take, append_assoc, append-nil, arith}
use Rattle.std.specs.List.{list_all}
use Rattle.std.specs.Str.{bytes_eq}
use Rattle.std.proofs.Math.Seq.{take-append_seam}
use Rattle.std.proofs.lemmas.Bool.{and_parts, and_from}
use Rattle.std.proofs.lemmas.Grind.{flat_map-append}
use Rattle.std.proofs.lemmas.List.{length-append}
use Rattle.std.proofs.lemmas.List.Folds.{list_all-append}
use Rattle.std.proofs.lemmas.Slice.Eq.{bytes_eq-Decides}
use Rattle.text_parts.specs.Lines.{Text, has_no_newline, whole_line}
use Rattle.text_parts.specs.Division.{is_line_but, HasLinesBut, LacksLine, LacksWholeLine, DividesAtLine, DividesAtWholeLine, at_end, IsPast, StopsAt, at_word, at_piece}
use Rattle.text_parts.proofs.CutLines.{no_clean, same_first}

module _ (word : Text) where
  -- lines that aren't the word

  pub other_line : (line : Text) → has_no_newline line ≡ true → (line ≡ word → ⊥) → is_line_but word line ≡ true
  other_line line clean other = and_from (has_no_newline line) (not (bytes_eq line word)) clean (go (bytes_eq line word) refl)
    where
      go : (t : Bool) → bytes_eq line word ≡ t → not t ≡ true
      go true e = absurd (other ((bytes_eq-Decides line word).0 e))
      go false e = refl

  pub other_clean : (line : Text) → is_line_but word line ≡ true → has_no_newline line ≡ true
  other_clean line h = (and_parts (has_no_newline line) (not (bytes_eq line word)) h).0

  pub other_apart : (line : Text) → is_line_but word line ≡ true → line ≡ word → ⊥
  other_apart line h is =
      let same : bytes_eq line word ≡ true = (bytes_eq-Decides line word).1 is in
      let bad : not true ≡ true = ap not (sym same) ∙ (and_parts (has_no_newline line) (not (bytes_eq line word)) h).1 in
      absurd cc

  -- texts of such lines

  pub no_lines : HasLinesBut word []
  no_lines = record { lines = []; is = refl; others = refl }

  pub one_line : (line : Text) → is_line_but word line ≡ true → HasLinesBut word (whole_line line)
  one_line line h = record { lines = line ∷ []; is = sym (append-nil (whole_line line)); others = and_from (is_line_but word line) true h refl }

  pub both_lines : {a b : Text} → HasLinesBut word a → HasLinesBut word b → HasLinesBut word (a ++ b)
  both_lines h k = record {
    lines = h.lines ++ k.lines;
    is = (λ i. h.is i ++ k.is i) ∙ sym (flat_map-append whole_line h.lines k.lines);
    others = list_all-append (is_line_but word) h.lines k.lines ∙ and_from (list_all (is_line_but word) h.lines) (list_all (is_line_but word) k.lines) h.others k.others;
  }

  pub past_one : (text rest line after : Text) → IsPast word text rest → has_no_newline line ≡ true → rest ≡ whole_line line ++ after → (line ≡ word → ⊥) → IsPast word text after
  past_one text rest line after h clean is other = record {
    front = h.front ++ whole_line line;
    is = h.is ∙ ap (λ t. h.front ++ t) is ∙ sym (append_assoc h.front (whole_line line) after);
    others = both_lines h.others (one_line line (other_line line clean other));
  }

  -- what stands before a place, as code cuts it
  front_taken : (text rest : Text) (h : IsPast word text rest) → take (length text - length rest) text ≡ h.front
  front_taken text rest h =
      let lengths : length text - length rest ≡ length h.front = omega (arith, ap length h.is, length-append h.front rest) in
      (λ i. take (lengths i) (h.is i)) ∙ take-append_seam h.front rest

  pub divided_here : (text rest after : Text) → IsPast word text rest → has_no_newline word ≡ true → rest ≡ whole_line word ++ after → DividesAtWholeLine word text (take (length text - length rest) text) after
  divided_here text rest after h plain is =
      let before = front_taken text rest h in
      record { is = h.is ∙ (λ i. sym before i ++ is i); plain = plain; first = subst (HasLinesBut word) (sym before) h.others }

  pub divided_last : (text rest : Text) → IsPast word text rest → has_no_newline rest ≡ true → rest ≡ word → DividesAtLine word text (take (length text - length rest) text) []
  divided_last text rest h clean same =
      let before = front_taken text rest h in
      at_end (subst (HasLinesBut word) (sym before) h.others) (subst (λ l. has_no_newline l ≡ true) same clean)
      (h.is ∙ (λ i. sym before i ++ same i)) refl

  pub lacks_whole : (text rest : Text) → IsPast word text rest → has_no_newline rest ≡ true → LacksWholeLine word text
  lacks_whole text rest h clean = record { front = h.front; piece = rest; is = h.is; others = h.others; unfinished = clean }

  pub lacks_last : (text rest : Text) → IsPast word text rest → has_no_newline rest ≡ true → (rest ≡ word → ⊥) → LacksLine word text
  unfolding lacks_whole
  lacks_last text rest h clean other = record { lacks = lacks_whole text rest h clean; differs = other }

  -- where the search stops, at the first whole line or where there is none
  pub word_first : (rest line after : Text) → StopsAt word rest → has_no_newline line ≡ true → rest ≡ whole_line line ++ after → (has_no_newline word ≡ true) × (line ≡ word)
  word_first rest line after (at_word other plain is) clean begins = (plain, (same_first line word after other clean plain (sym begins ∙ is)).0)
  word_first rest line after (at_piece none) clean begins = absurd (no_clean line after (ap has_no_newline (sym begins) ∙ none))

  pub stops_here : (rest line after : Text) → has_no_newline line ≡ true → rest ≡ whole_line line ++ after → line ≡ word → StopsAt word rest
  stops_here rest line after clean is same = at_word after (subst (λ l. has_no_newline l ≡ true) same clean) (is ∙ ap (λ l. whole_line l ++ after) same)

  -- a whole line where the search stops
  pub divided_first : (text rest line after : Text) → IsPast word text rest → StopsAt word rest → has_no_newline line ≡ true → rest ≡ whole_line line ++ after
      → DividesAtWholeLine word text (take (length text - length rest) text) after
  divided_first text rest line after h stops clean begins =
      let first = word_first rest line after stops clean begins in
      divided_here text rest after h first.0 (begins ∙ ap (λ l. whole_line l ++ after) first.1)
