-- A text is read as one list of expectations, or is refused after one number of lines, and never both.
use Rattle.std.proofs.Common.{◌≡◌, ◌∙◌, ◌<◌, ◌≤◌, ◌⊎◌, inl, inr, ℕ, suc, sym, ap, ap₂, refl, List, [], ◌∷◌, ◌++◌, length, codes, append_assoc, append-nil, arith}
use Rattle.std.specs.List.{All}
use Rattle.std.proofs.lemmas.List.{length-append}
use Rattle.text_parts.specs.Lines.{Text, IsLineEnd, whole_line}
use Rattle.text_parts.proofs.Callers.{same_line}
use Rattle.il_syntax.specs.declared.program.Location.{Location}
use Rattle.litmus_text.specs.Expectation.{Expected, expectation_line, FitsExpectation}
use Rattle.litmus_text.specs.Expectations.{expectation_lines, most_expectations, HasExpectations, BeginsWithExpectation, ReadsExpectations, finished, unfinished, AreExpectationsRefusedAfter}
use Rattle.litmus_text.proofs.ExpectationWords.{clean_line, same_line_expectation, some_bytes}
use Rattle.litmus_text.proofs.Names.{AreNamed}

-- a text that goes on after a newline as another does whose own newline comes last
record GoesOn (text front : Text) : Type 0 where
  more : Text
  is : text ≡ front ++ more
  ends : IsLineEnd more

without_last : (text front rest : Text) → text ++ codes "\n" ≡ front ++ (10 ∷ rest) → GoesOn text front
without_last [] [] rest e = record { more = []; is = refl; ends = tt }
without_last (b ∷ bs) [] rest e = record { more = b ∷ bs; is = refl; ends = cc }
without_last [] (c ∷ front) rest e = absurd (never front rest cc)
  where
    never : (front rest : Text) → [] ≡ front ++ (10 ∷ rest) → ⊥
    never [] rest e = absurd cc
    never (b ∷ bs) rest e = absurd cc
without_last (b ∷ bs) (c ∷ front) rest e =
    let heads : b ≡ c = cc in
    let h = without_last bs front rest cc in
    record { more = h.more; is = ap₂ (λ x xs. x ∷ xs) heads h.is; ends = h.ends }

no_newline : (text : Text) → [] ≡ text ++ codes "\n" → ⊥
no_newline text e = omega (arith, ap length e, length-append text (codes "\n"))

-- a text begins with the whole line of an expectation
record BeginsWithWhole (locations : List Location) (text : Text) : Type 0 where
  expectation : Expected
  rest : Text
  is : text ≡ whole_line (expectation_line locations expectation) ++ rest
  fits : FitsExpectation locations expectation

-- of two lists of expectations that one text begins with, one is the front of the other
data Compared (locations : List Location) (es fs : List Expected) (r s : Text) : Type 0 where
  equal : es ≡ fs → r ≡ s → Compared locations es fs r s
  longer : length fs < length es → BeginsWithWhole locations s → Compared locations es fs r s
  shorter : length es < length fs → BeginsWithWhole locations r → Compared locations es fs r s

module _ (locations : List Location) (named : AreNamed locations) where
  all_rest : (e : Expected) (es : List Expected) → All (FitsExpectation locations) (e ∷ es) → All (FitsExpectation locations) es
  all_rest e es h k d below = h (suc k) d (omega arith)

  begins : (text : Text) → BeginsWithWhole locations text → BeginsWithExpectation locations text
  begins text b = record { expectation = b.expectation; rest = 10 ∷ b.rest; is = b.is ∙ append_assoc (expectation_line locations b.expectation) (codes "\n") b.rest; ends = refl; fits = b.fits }

  begins_last : (text : Text) → BeginsWithWhole locations (text ++ codes "\n") → BeginsWithExpectation locations text
  begins_last text b =
      let h = without_last text (expectation_line locations b.expectation) b.rest (b.is ∙ append_assoc (expectation_line locations b.expectation) (codes "\n") b.rest) in
      record { expectation = b.expectation; rest = h.more; is = h.is; ends = h.ends; fits = b.fits }

  -- it has two bytes or more
  long : (text : Text) → BeginsWithWhole locations text → 2 ≤ length text
  long text b =
      omega (arith, ap length b.is, some_bytes locations b.expectation, length-append (whole_line (expectation_line locations b.expectation)) b.rest, length-append (expectation_line locations b.expectation) (codes "\n"))

  none : BeginsWithWhole locations [] → ⊥
  none b = let h = long [] b in omega arith

  no_blank_line : BeginsWithWhole locations (codes "\n") → ⊥
  no_blank_line b = let h = long (codes "\n") b in omega arith

  one_line : (e f : Expected) (r s : Text) → FitsExpectation locations e → FitsExpectation locations f → whole_line (expectation_line locations e) ++ r ≡ whole_line (expectation_line locations f) ++ s → (e ≡ f) × (r ≡ s)
  one_line e f r s h k same =
      let cut = same_line (expectation_line locations e) (expectation_line locations f) (10 ∷ r) (10 ∷ s) (clean_line locations named e h) (clean_line locations named f k) refl refl
      (sym (append_assoc (expectation_line locations e) (codes "\n") r) ∙ same ∙ append_assoc (expectation_line locations f) (codes "\n") s) in
      let rests : 10 ∷ r ≡ 10 ∷ s = cut.1 in
      (same_line_expectation locations named e f h k cut.0, cc)

  lifted : (e f : Expected) (es fs : List Expected) (r s : Text) → e ≡ f → Compared locations es fs r s → Compared locations (e ∷ es) (f ∷ fs) r s
  lifted e f es fs r s same (equal a b) = equal (ap₂ (λ x xs. x ∷ xs) same a) b
  lifted e f es fs r s same (longer a b) = longer (omega arith) b
  lifted e f es fs r s same (shorter a b) = shorter (omega arith) b

  compared : (es fs : List Expected) (r s : Text) → All (FitsExpectation locations) es → All (FitsExpectation locations) fs → expectation_lines locations es ++ r ≡ expectation_lines locations fs ++ s → Compared locations es fs r s
  compared [] [] r s h k same = equal refl same
  compared [] (f ∷ fs) r s h k same =
      shorter (omega arith) (record {
        expectation = f;
        rest = expectation_lines locations fs ++ s;
        is = same ∙ append_assoc (whole_line (expectation_line locations f)) (expectation_lines locations fs) s;
        fits = k 0 f (omega arith);
      })
  compared (e ∷ es) [] r s h k same =
      longer (omega arith) (record {
        expectation = e;
        rest = expectation_lines locations es ++ r;
        is = sym same ∙ append_assoc (whole_line (expectation_line locations e)) (expectation_lines locations es) r;
        fits = h 0 e (omega arith);
      })
  compared (e ∷ es) (f ∷ fs) r s h k same =
      let step = one_line e f (expectation_lines locations es ++ r) (expectation_lines locations fs ++ s) (h 0 e (omega arith)) (k 0 f (omega arith))
      (sym (append_assoc (whole_line (expectation_line locations e)) (expectation_lines locations es) r) ∙ same ∙ append_assoc (whole_line (expectation_line locations f)) (expectation_lines locations fs) s) in
      lifted e f es fs r s step.0 (compared es fs r s (all_rest e es h) (all_rest f fs k) step.1)

  -- two readings

  same_events : (text : Text) (es fs : List Expected) → HasExpectations locations text es [] → HasExpectations locations text fs [] → es ≡ fs
  same_events text es fs h k = go (compared es fs [] [] h.fit k.fit (sym h.is ∙ k.is))
    where
      go : Compared locations es fs [] [] → es ≡ fs
      go (equal same rests) = same
      go (longer more b) = absurd (none b)
      go (shorter more b) = absurd (none b)

  never_both : (text : Text) (es fs : List Expected) → HasExpectations locations text es [] → HasExpectations locations (whole_line text) fs [] → ⊥
  never_both text es fs h k =
      go (compared es fs (codes "\n") [] h.fit k.fit (ap (λ t. t ++ codes "\n") (sym (h.is ∙ append-nil (expectation_lines locations es))) ∙ k.is))
    where
      go : Compared locations es fs (codes "\n") [] → ⊥
      go (equal same rests) = absurd cc
      go (longer more b) = none b
      go (shorter more b) = no_blank_line b

  pub one_reading : (text : Text) (es fs : List Expected) → ReadsExpectations locations text es → ReadsExpectations locations text fs → es ≡ fs
  one_reading text es fs (finished h) (finished k) = same_events text es fs h k
  one_reading text es fs (finished h) (unfinished k) = absurd (never_both text es fs h k)
  one_reading text es fs (unfinished h) (finished k) = absurd (never_both text fs es k h)
  one_reading text es fs (unfinished h) (unfinished k) = same_events (whole_line text) es fs h k

  -- a reading and a refusal

  module _ (text : Text) (lines : ℕ) (k : AreExpectationsRefusedAfter locations text lines) where
    no_more : (n : ℕ) → length k.expectations < n → n ≤ most_expectations → (BeginsWithExpectation locations k.rest) → ⊥
    no_more n less few b = go k.no_expectation
      where
        go : (lines ≡ most_expectations) ⊎ (BeginsWithExpectation locations k.rest → ⊥) → ⊥
        go (inl full) = let count = k.count in omega arith
        go (inr other) = other b

    pub not_refused : (es : List Expected) → ReadsExpectations locations text es → ⊥
    not_refused es (finished h) = go (compared es k.expectations [] k.rest h.fit k.first.fit (sym h.is ∙ k.first.is))
      where
        go : Compared locations es k.expectations [] k.rest → ⊥
        go (equal same rests) = k.goes_on (sym rests)
        go (longer more b) = no_more (length es) more h.few (begins k.rest b)
        go (shorter more b) = none b
    not_refused es (unfinished h) =
        go (compared es k.expectations [] (k.rest ++ codes "\n") h.fit k.first.fit
        (sym h.is ∙ ap (λ t. t ++ codes "\n") k.first.is ∙ append_assoc (expectation_lines locations k.expectations) k.rest (codes "\n")))
      where
        go : Compared locations es k.expectations [] (k.rest ++ codes "\n") → ⊥
        go (equal same rests) = no_newline k.rest rests
        go (longer more b) = no_more (length es) more h.few (begins_last k.rest b)
        go (shorter more b) = none b

  -- two refusals
  pub one_count : (text : Text) (m n : ℕ) → AreExpectationsRefusedAfter locations text m → AreExpectationsRefusedAfter locations text n → m ≡ n
  one_count text m n h k = go (compared h.expectations k.expectations h.rest k.rest h.first.fit k.first.fit (sym h.first.is ∙ k.first.is))
    where
      go : Compared locations h.expectations k.expectations h.rest k.rest → m ≡ n
      go (equal same rests) = sym h.count ∙ ap length same ∙ k.count
      go (longer more b) = absurd (no_more text n k (length h.expectations) more h.first.few (begins k.rest b))
      go (shorter more b) = absurd (no_more text m h (length k.expectations) more k.first.few (begins h.rest b))
