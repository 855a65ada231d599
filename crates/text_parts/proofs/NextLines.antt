-- A text that isn't empty has a first line.
use Rattle.std.proofs.Common.{◌≡◌, ◌≢◌, ◌∙◌, ◌==◌, Bool, true, false, ◌<◌, ◌≤◌, ◌⊎◌, inl, inr, ℕ, ap, refl, [], ◌∷◌, ◌++◌, length, codes, arith}
use Rattle.std.proofs.lemmas.Bool.Decides.{nat_tests}
use Rattle.std.proofs.lemmas.List.{length-append}
use Rattle.text_parts.specs.Lines.{Text, has_no_newline, whole_line, IsNextLine}

pub record HasLine (text : Text) : Type 0 where
  pub line : Text
  pub after : Text
  pub next : IsNextLine text line after

newline_next : (text : Text) (b : ℕ) → b ≡ 10 → HasLine (b ∷ text)
newline_next text b is = record {
  line = [];
  after = text;
  next = record { clean = refl; goes_on = λ none. absurd cc; is = inl (ap (λ c. c ∷ text) is) };
}

byte_next : (text : Text) (b : ℕ) → (b == 10) ≡ false → HasLine text ⊎ (text ≡ []) → HasLine (b ∷ text)
byte_next text b differs (inl h) = record {
  line = b ∷ h.line;
  after = h.after;
  next = record { clean = rw (differs, h.next.clean); goes_on = λ none. absurd cc; is = longer h.next.is };
}
  where
    longer : (text ≡ whole_line h.line ++ h.after) ⊎ ((text ≡ h.line) × (h.after ≡ [])) → (b ∷ text ≡ whole_line (b ∷ h.line) ++ h.after) ⊎ ((b ∷ text ≡ b ∷ h.line) × (h.after ≡ []))
    longer (inl is) = inl (ap (λ t. b ∷ t) is)
    longer (inr last) = inr (ap (λ t. b ∷ t) last.0, last.1)
byte_next text b differs (inr none) = record {
  line = b ∷ [];
  after = [];
  next = record { clean = rw differs; goes_on = λ none. absurd cc; is = inr (ap (λ t. b ∷ t) none, refl) };
}

pub next_of : (text : Text) → HasLine text ⊎ (text ≡ [])
next_of [] = inr refl
next_of (b ∷ bs) = inl (go (b == 10) refl (next_of bs))
  where
    go : (t : Bool) → (b == 10) ≡ t → HasLine bs ⊎ (bs ≡ []) → HasLine (b ∷ bs)
    go true e more = newline_next bs b (grind (arith, nat_tests))
    go false e more = byte_next bs b e more

pub after_shorter : (text line after : Text) → IsNextLine text line after → length after < length text
after_shorter text line after next = go next.is
  where
    some : 1 ≤ length text
    some = go text next.goes_on
      where
        go : (t : Text) → t ≢ [] → 1 ≤ length t
        go [] none = absurd (none refl)
        go (b ∷ bs) none = omega arith

    go : (text ≡ whole_line line ++ after) ⊎ ((text ≡ line) × (after ≡ [])) → length after < length text
    go (inl is) = omega (arith, ap length is, length-append (whole_line line) after, length-append line (codes "\n"))
    go (inr last) = omega (arith, ap length last.1, some)

-- a text begins with a whole line, or has no newline

pub record BeginsWithLine (text : Text) : Type 0 where
  pub line : Text
  pub rest : Text
  pub clean : has_no_newline line ≡ true
  pub is : text ≡ whole_line line ++ rest

pub line_or_piece : (text : Text) → BeginsWithLine text ⊎ (has_no_newline text ≡ true)
line_or_piece text = go (next_of text)
  where
    cut : (h : HasLine text) → (text ≡ whole_line h.line ++ h.after) ⊎ ((text ≡ h.line) × (h.after ≡ [])) → BeginsWithLine text ⊎ (has_no_newline text ≡ true)
    cut h (inl is) = inl (record { line = h.line; rest = h.after; clean = h.next.clean; is = is })
    cut h (inr last) = inr (ap has_no_newline last.0 ∙ h.next.clean)

    go : HasLine text ⊎ (text ≡ []) → BeginsWithLine text ⊎ (has_no_newline text ≡ true)
    go (inl h) = cut h h.next.is
    go (inr none) = inr (ap has_no_newline none)
