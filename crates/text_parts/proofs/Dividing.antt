-- A text divides in one way, or lacks the line.
use Rattle.std.proofs.Common.{◌≡◌, ◌∙◌, sym, ap, ap₂, refl, Bool, true, List, [], ◌∷◌, ◌++◌, append_assoc}
use Rattle.std.specs.List.{flat_map, list_all}
use Rattle.std.proofs.lemmas.Bool.{and_parts}
use Rattle.text_parts.specs.Lines.{Text, has_no_newline, whole_line}
use Rattle.text_parts.specs.Division.{is_line_but, HasLinesBut, LacksLine, LacksWholeLine, DividesAtLine, DividesAtWholeLine, at_line, at_end}
use Rattle.text_parts.specs.Laws.{DivideInOneWay, DividedLackNothing}
use Rattle.text_parts.proofs.CutLines.{no_clean, same_first}
use Rattle.text_parts.proofs.OtherLines.{other_apart, other_clean}

-- a line before others
lines_next : (x : Text) (xs : List Text) (r : Text) → flat_map whole_line (x ∷ xs) ++ r ≡ whole_line x ++ (flat_map whole_line xs ++ r)
lines_next x xs r = append_assoc (whole_line x) (flat_map whole_line xs) r

module _ (word : Text) where
  abbrev are_other : List Text → Bool
  are_other = list_all (is_line_but word)

  first_and_rest : (x : Text) (xs : List Text) → are_other (x ∷ xs) ≡ true → (is_line_but word x ≡ true) × (are_other xs ≡ true)
  first_and_rest x xs h = and_parts (is_line_but word x) (are_other xs) h

  module _ (plain : has_no_newline word ≡ true) where
    same_lines : (xs ys : List Text) (r s : Text) → are_other xs ≡ true → are_other ys ≡ true
        → flat_map whole_line xs ++ (whole_line word ++ r) ≡ flat_map whole_line ys ++ (whole_line word ++ s) → (xs ≡ ys) × (r ≡ s)
    same_lines [] [] r s h k e = (refl, (same_first word word r s plain plain e).1)
    same_lines [] (y ∷ ys) r s h k e =
        let other = (first_and_rest y ys k).0 in
        absurd (other_apart word y other (sym (same_first word y r (flat_map whole_line ys ++ (whole_line word ++ s)) plain (other_clean word y other) (e ∙ lines_next y ys (whole_line word ++ s))).0))
    same_lines (x ∷ xs) [] r s h k e =
        let other = (first_and_rest x xs h).0 in
        absurd (other_apart word x other (same_first x word (flat_map whole_line xs ++ (whole_line word ++ r)) s (other_clean word x other) plain (sym (lines_next x xs (whole_line word ++ r)) ∙ e)).0)
    same_lines (x ∷ xs) (y ∷ ys) r s h k e =
        let x_parts = first_and_rest x xs h in
        let y_parts = first_and_rest y ys k in
        let cut = same_first x y (flat_map whole_line xs ++ (whole_line word ++ r)) (flat_map whole_line ys ++ (whole_line word ++ s)) (other_clean word x x_parts.0) (other_clean word y y_parts.0)
        (sym (lines_next x xs (whole_line word ++ r)) ∙ e ∙ lines_next y ys (whole_line word ++ s)) in
        let more = same_lines xs ys r s x_parts.1 y_parts.1 cut.1 in
        (ap₂ (λ l ls. l ∷ ls) cut.0 more.0, more.1)

    no_separator : (xs ys : List Text) (r piece : Text) → are_other xs ≡ true → are_other ys ≡ true → has_no_newline piece ≡ true
        → flat_map whole_line xs ++ (whole_line word ++ r) ≡ flat_map whole_line ys ++ piece → ⊥
    no_separator [] [] r piece h k clean e = no_clean word r (ap has_no_newline e ∙ clean)
    no_separator [] (y ∷ ys) r piece h k clean e =
        let other = (first_and_rest y ys k).0 in
        other_apart word y other (sym (same_first word y r (flat_map whole_line ys ++ piece) plain (other_clean word y other) (e ∙ lines_next y ys piece)).0)
    no_separator (x ∷ xs) [] r piece h k clean e = no_clean x (flat_map whole_line xs ++ (whole_line word ++ r)) (ap has_no_newline (sym (lines_next x xs (whole_line word ++ r)) ∙ e) ∙ clean)
    no_separator (x ∷ xs) (y ∷ ys) r piece h k clean e =
        let x_parts = first_and_rest x xs h in
        let y_parts = first_and_rest y ys k in
        let cut = same_first x y (flat_map whole_line xs ++ (whole_line word ++ r)) (flat_map whole_line ys ++ piece) (other_clean word x x_parts.0) (other_clean word y y_parts.0)
        (sym (lines_next x xs (whole_line word ++ r)) ∙ e ∙ lines_next y ys piece) in
        no_separator xs ys r piece x_parts.1 y_parts.1 clean cut.1

  -- a text is cut after its last newline in one way
  same_pieces : (xs ys : List Text) (p q : Text) → are_other xs ≡ true → are_other ys ≡ true → has_no_newline p ≡ true → has_no_newline q ≡ true
      → flat_map whole_line xs ++ p ≡ flat_map whole_line ys ++ q → (xs ≡ ys) × (p ≡ q)
  same_pieces [] [] p q h k p_clean q_clean e = (refl, e)
  same_pieces [] (y ∷ ys) p q h k p_clean q_clean e = absurd (no_clean y (flat_map whole_line ys ++ q) (ap has_no_newline (sym (e ∙ lines_next y ys q)) ∙ p_clean))
  same_pieces (x ∷ xs) [] p q h k p_clean q_clean e = absurd (no_clean x (flat_map whole_line xs ++ p) (ap has_no_newline (sym (lines_next x xs p) ∙ e) ∙ q_clean))
  same_pieces (x ∷ xs) (y ∷ ys) p q h k p_clean q_clean e =
      let x_parts = first_and_rest x xs h in
      let y_parts = first_and_rest y ys k in
      let cut = same_first x y (flat_map whole_line xs ++ p) (flat_map whole_line ys ++ q) (other_clean word x x_parts.0) (other_clean word y y_parts.0) (sym (lines_next x xs p) ∙ e ∙ lines_next y ys q) in
      let more = same_pieces xs ys p q x_parts.1 y_parts.1 p_clean q_clean cut.1 in
      (ap₂ (λ l ls. l ∷ ls) cut.0 more.0, more.1)

  same_ends : (front front' p q : Text) → HasLinesBut word front → HasLinesBut word front' → has_no_newline p ≡ true → has_no_newline q ≡ true → front ++ p ≡ front' ++ q → (front ≡ front') × (p ≡ q)
  same_ends front front' p q h k p_clean q_clean e =
      let same = same_pieces h.lines k.lines p q h.others k.others p_clean q_clean ((λ i. sym h.is i ++ p) ∙ e ∙ (λ i. k.is i ++ q)) in
      (h.is ∙ ap (flat_map whole_line) same.0 ∙ sym k.is, same.1)

-- at whole lines

pub one_whole_division : DivideInOneWay DividesAtWholeLine
one_whole_division word text before after before' after' h k =
    let same = same_lines word h.plain h.first.lines k.first.lines after after' h.first.others k.first.others
    ((λ i. sym h.first.is i ++ (whole_line word ++ after)) ∙ sym h.is ∙ k.is ∙ (λ i. k.first.is i ++ (whole_line word ++ after'))) in
    (h.first.is ∙ ap (flat_map whole_line) same.0 ∙ sym k.first.is, same.1)

pub never_lacks_whole : DividedLackNothing DividesAtWholeLine LacksWholeLine
never_lacks_whole word text before after h k =
    no_separator word h.plain h.first.lines k.others.lines after k.piece h.first.others k.others.others k.unfinished
    ((λ i. sym h.first.is i ++ (whole_line word ++ after)) ∙ sym h.is ∙ k.is ∙ (λ i. k.others.is i ++ k.piece))

-- at lines

-- the word as a last piece is no whole line
last_piece : (word text before : Text) → HasLinesBut word before → has_no_newline word ≡ true → text ≡ before ++ word → LacksWholeLine word text
last_piece word text before h plain is = record { front = before; piece = word; is = is; others = h; unfinished = plain }

pub one_division : DivideInOneWay DividesAtLine
one_division word text before after before' after' (at_line h) (at_line k) = one_whole_division word text before after before' after' h k
one_division word text before after before' after' (at_line h) (at_end k plain is none) = absurd (never_lacks_whole word text before after h (last_piece word text before' k plain is))
one_division word text before after before' after' (at_end h plain is none) (at_line k) = absurd (never_lacks_whole word text before' after' k (last_piece word text before h plain is))
one_division word text before after before' after' (at_end h plain is none) (at_end k plain' is' none') =
    ((same_ends word before before' word word h k plain plain' (sym is ∙ is')).0, none ∙ sym none')

pub never_lacks : DividedLackNothing DividesAtLine LacksLine
never_lacks word text before after (at_line h) k = never_lacks_whole word text before after h k.lacks
never_lacks word text before after (at_end h plain is none) k =
    k.differs (sym (same_ends word before k.lacks.front word k.lacks.piece h k.lacks.others plain k.lacks.unfinished (sym is ∙ k.lacks.is)).1)
