-- What the first line of a text is, by its bytes.
use Rattle.std.proofs.Common.{◌≡◌, ◌∙◌, ◌==◌, ◌+◌, ◌-◌, ◌<◌, ◌≤◌, ℕ, zero, suc, sym, ap, subst, refl, Bool, true, false, [], ◌∷◌, ◌++◌, length, get_or, take, drop, codes, append_assoc, add-one, Some, None, arith}
use Rattle.std.specs.Prelude.{nat_lt, position}
use Rattle.std.specs.List.{position_or_len}
use Rattle.std.proofs.Math.Seq.{drop-cons}
use Rattle.std.proofs.lemmas.Bool.Decides.{nat_tests}
use Rattle.std.proofs.lemmas.List.{length-drop, drop_all, take-append-drop, take_all}
use Rattle.std.proofs.lemmas.List.Quantifiers.{position-Some}
use Rattle.std.proofs.lemmas.List.Sums.{fails_before_first}
use Rattle.text_parts.specs.Lines.{Text, IsFirstLine, IsLineEnd, has_no_newline, whole_line}

-- the bytes before the first newline
clean_before : (xs : Text) (n : ℕ) → n ≤ length xs → ((k : ℕ) → k < n → (get_or xs k 0 == 10) ≡ false) → has_no_newline (take n xs) ≡ true
clean_before [] zero b h = refl
clean_before (x ∷ xs) zero b h = refl
clean_before [] (suc n) b h = absurd (omega arith)
clean_before (x ∷ xs) (suc n) b h =
    let first : (x == 10) ≡ false = h 0 (omega arith) in
    rw first (clean_before xs n (omega arith) (λ k below. h (suc k) (omega arith)))

newline_at : (text : Text) (n : ℕ) → n < length text → (get_or text n 0 == 10) ≡ true → IsLineEnd (drop n text)
newline_at text n below is =
    let byte : get_or text n 0 ≡ 10 = grind (arith, nat_tests) in
    rw (drop-cons text n 0) byte

pub line_at : (text : Text) (n : ℕ) → Some n ≡ position (λ b. b == 10) text → IsFirstLine text n
line_at text n found =
    let parts = position-Some (λ b. b == 10) text n 0 (sym found) in
    record {
      within = omega (arith, parts.0);
      ends = newline_at text n parts.0 parts.1;
      clean = clean_before text n (omega (arith, parts.0)) parts.2;
    }

none_before_end : (text : Text) → None ≡ position (λ b. b == 10) text → length text ≤ position_or_len (λ b. b == 10) text
none_before_end text e = go (nat_lt (position_or_len (λ b. b == 10) text) (length text)) refl
  where
    go : (t : Bool) → nat_lt (position_or_len (λ b. b == 10) text) (length text) ≡ t → length text ≤ position_or_len (λ b. b == 10) text
    go true below = let bad : None ≡ Some (position_or_len (λ b. b == 10) text) = rw below at e in absurd cc
    go false below = grind (arith, nat_tests)

pub line_whole : (text : Text) → None ≡ position (λ b. b == 10) text → IsFirstLine text (length text)
line_whole text none = record {
  within = omega arith;
  ends = rw (drop_all (length text) text (omega arith)) tt;
  clean = clean_before text (length text) (omega arith) (λ k below. fails_before_first (λ b. b == 10) text k 0 (omega (arith, none_before_end text none)));
}

-- a text is cut at its first newline

line_cut : (text : Text) (n : ℕ) → Some n ≡ position (λ b. b == 10) text → (has_no_newline (take n text) ≡ true) × (text ≡ whole_line (take n text) ++ drop (n + 1) text)
line_cut text n found =
    let h = line_at text n found in
    let here = drop-cons text n 0 (position-Some (λ b. b == 10) text n 0 (sym found)).0 in
    let ends : IsLineEnd (get_or text n 0 ∷ drop (suc n) text) = subst IsLineEnd here h.ends in
    let next : drop n text ≡ 10 ∷ drop (n + 1) text = here ∙ ap (λ b. b ∷ drop (suc n) text) ends ∙ ap (λ k. 10 ∷ drop k text) (sym (add-one n)) in
    (h.clean, sym (take-append-drop n text) ∙ ap (λ t. take n text ++ t) next ∙ sym (append_assoc (take n text) (codes "\n") (drop (n + 1) text)))

pub no_line : (text : Text) → None ≡ position (λ b. b == 10) text → has_no_newline text ≡ true
no_line text none = ap has_no_newline (sym (take_all (length text) text (omega arith))) ∙ (line_whole text none).clean

-- the same of the rest of a text as code cuts it
pub line_taken : (text : Text) (n : ℕ) → Some n ≡ position (λ b. b == 10) text
    → (has_no_newline (take n text) ≡ true) × (text ≡ whole_line (take n text) ++ take (length text - (n + 1)) (drop (n + 1) text))
line_taken text n found =
    let cut = line_cut text n found in
    let short : length (drop (n + 1) text) ≤ length text - (n + 1) = omega (arith, length-drop (n + 1) text) in
    (cut.0, cut.1 ∙ ap (λ t. whole_line (take n text) ++ t) (sym (take_all (length text - (n + 1)) (drop (n + 1) text) short)))
