-- A text is cut at its first newline in one way.
use Rattle.std.proofs.Common.{◌≡◌, ◌∙◌, ◌==◌, ℕ, sym, ap₂, subst, refl, true, false, not, [], ◌∷◌, ◌++◌, codes, append_assoc}
use Rattle.std.proofs.lemmas.Bool.{and_parts}
use Rattle.std.proofs.lemmas.List.Folds.{list_all-append}
use Rattle.text_parts.specs.Lines.{Text, IsLineEnd, has_no_newline, whole_line}

newline_first : (b : ℕ) (bs : Text) → has_no_newline (b ∷ bs) ≡ true → b ≡ 10 → ⊥
newline_first b bs h is = let bad : false ≡ true = subst (λ x. has_no_newline (x ∷ bs) ≡ true) is h in absurd cc

rest_clean : (b : ℕ) (bs : Text) → has_no_newline (b ∷ bs) ≡ true → has_no_newline bs ≡ true
rest_clean b bs h = (and_parts (not (b == 10)) (has_no_newline bs) h).1

pub same_line : (a b s t : Text) → has_no_newline a ≡ true → has_no_newline b ≡ true → IsLineEnd s → IsLineEnd t → a ++ s ≡ b ++ t → (a ≡ b) × (s ≡ t)
same_line [] [] s t na nb ls lt e = (refl, e)
same_line [] (y ∷ b) [] t na nb ls lt e = absurd cc
same_line [] (y ∷ b) (z ∷ zs) t na nb ls lt e = let head : z ≡ y = cc in absurd (newline_first y b nb (sym head ∙ ls))
same_line (x ∷ a) [] s [] na nb ls lt e = absurd cc
same_line (x ∷ a) [] s (z ∷ zs) na nb ls lt e = let head : x ≡ z = cc in absurd (newline_first x a na (head ∙ lt))
same_line (x ∷ a) (y ∷ b) s t na nb ls lt e =
    let head : x ≡ y = cc in
    let tail : a ++ s ≡ b ++ t = cc in
    let more = same_line a b s t (rest_clean x a na) (rest_clean y b nb) ls lt tail in
    (ap₂ (λ c cs. c ∷ cs) head more.0, more.1)

-- two lines that begin the same text are one line
pub same_first : (a b r s : Text) → has_no_newline a ≡ true → has_no_newline b ≡ true → whole_line a ++ r ≡ whole_line b ++ s → (a ≡ b) × (r ≡ s)
same_first a b r s h k e =
    let cut = same_line a b (10 ∷ r) (10 ∷ s) h k refl refl (sym (append_assoc a (codes "\n") r) ∙ e ∙ append_assoc b (codes "\n") s) in
    let rests : 10 ∷ r ≡ 10 ∷ s = cut.1 in
    (cut.0, cc)

-- a text with a whole line has a newline
pub no_clean : (a r : Text) → has_no_newline (whole_line a ++ r) ≡ true → ⊥
no_clean a r h =
    let parts = and_parts (has_no_newline (whole_line a)) (has_no_newline r) (sym (list_all-append (λ b. not (b == 10)) (whole_line a) r) ∙ h) in
    let line = and_parts (has_no_newline a) false (sym (list_all-append (λ b. not (b == 10)) a (codes "\n")) ∙ parts.0) in
    let bad : false ≡ true = line.1 in absurd cc
