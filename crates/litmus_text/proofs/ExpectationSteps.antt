-- What a line adds to the expectations that were read before it.
use Rattle.std.proofs.Common.{◌≡◌, ◌∙◌, ◌<◌, ◌≤◌, ◌⊎◌, inl, inr, ℕ, zero, suc, sym, ap, subst, refl, List, [], ◌∷◌, ◌++◌, length, codes, append_assoc, append-nil, arith, Option, None}
use Rattle.std.specs.List.{All}
use Rattle.std.proofs.lemmas.Grind.{flat_map-append}
use Rattle.std.proofs.lemmas.List.{length-append}
use Rattle.std.proofs.lemmas.List.Elements.{All-append}
use Rattle.journal_text.specs.Kind.{Decodes}
use Rattle.text_parts.specs.Lines.{Text, whole_line, IsNextLine}
use Rattle.text_parts.proofs.Callers.{same_line}
use Rattle.il_syntax.specs.declared.program.Location.{Location}
use Rattle.litmus_text.specs.Expectation.{Expected, expectation_line, FitsExpectation}
use Rattle.litmus_text.specs.Expectations.{expectation_lines, most_expectations, BeginsWithExpectation, ReadsExpectations, finished, unfinished, AreExpectationsRefusedAfter}
use Rattle.litmus_text.proofs.ExpectationWords.{clean_line}
use Rattle.litmus_text.proofs.Names.{AreNamed}

-- the expectations that were read, and what is left; nothing is left after a last line without its newline
pub record HasTaken (locations : List Location) (text : Text) (expectations : List Expected) (rest : Text) : Type 0 where
  pub fit : All (FitsExpectation locations) expectations
  pub few : length expectations ≤ most_expectations
  pub is : (text ≡ expectation_lines locations expectations ++ rest) ⊎ ((rest ≡ []) × (whole_line text ≡ expectation_lines locations expectations))

module _ (locations : List Location) where
  pub none_taken : (text : Text) → HasTaken locations text [] text
  none_taken text = record { fit = λ k d below. absurd (omega arith); few = omega arith; is = inl refl }

  pub all_taken : (text : Text) (expectations : List Expected) (rest : Text) → HasTaken locations text expectations rest → rest ≡ [] → ReadsExpectations locations text expectations
  all_taken text expectations rest h done = go h.is
    where
      go : (text ≡ expectation_lines locations expectations ++ rest) ⊎ ((rest ≡ []) × (whole_line text ≡ expectation_lines locations expectations)) → ReadsExpectations locations text expectations
      go (inl is) = finished (record { is = is ∙ ap (λ r. expectation_lines locations expectations ++ r) done; fit = h.fit; few = h.few })
      go (inr last) = unfinished (record { is = last.1 ∙ sym (append-nil (expectation_lines locations expectations)); fit = h.fit; few = h.few })

  lines_more : (expectations : List Expected) (e : Expected) → expectation_lines locations (expectations ++ e ∷ []) ≡ expectation_lines locations expectations ++ whole_line (expectation_line locations e)
  lines_more expectations e =
      flat_map-append (λ x. whole_line (expectation_line locations x)) expectations (e ∷ []) ∙ ap (λ t. expectation_lines locations expectations ++ t) (append-nil (whole_line (expectation_line locations e)))

  module _ (text : Text) (expectations : List Expected) (rest line after : Text) (h : HasTaken locations text expectations rest) (next : IsNextLine rest line after) where
    -- what stands before a line
    before : text ≡ expectation_lines locations expectations ++ rest
    before = go h.is
      where
        go : (text ≡ expectation_lines locations expectations ++ rest) ⊎ ((rest ≡ []) × (whole_line text ≡ expectation_lines locations expectations)) → text ≡ expectation_lines locations expectations ++ rest
        go (inl is) = is
        go (inr last) = absurd (next.goes_on last.0)

    pub one_taken : (e : Expected) → FitsExpectation locations e → line ≡ expectation_line locations e → length expectations < most_expectations → HasTaken locations text (expectations ++ e ∷ []) after
    one_taken e fits same room = record {
      fit = All-append (FitsExpectation locations) expectations (e ∷ []) h.fit alone;
      few = omega (arith, length-append expectations (e ∷ []));
      is = go next.is;
    }
      where
        alone : All (FitsExpectation locations) (e ∷ [])
        alone zero d below = fits
        alone (suc k) d below = absurd (omega arith)

        go : (rest ≡ whole_line line ++ after) ⊎ ((rest ≡ line) × (after ≡ []))
            → (text ≡ expectation_lines locations (expectations ++ e ∷ []) ++ after) ⊎ ((after ≡ []) × (whole_line text ≡ expectation_lines locations (expectations ++ e ∷ [])))
        go (inl is) =
            inl (before ∙ ap (λ r. expectation_lines locations expectations ++ r) (is ∙ ap (λ l. whole_line l ++ after) same) ∙ sym (append_assoc (expectation_lines locations expectations) (whole_line (expectation_line locations e)) after)
            ∙ ap (λ t. t ++ after) (sym (lines_more expectations e)))
        go (inr last) =
            inr (
              last.1,
              ap (λ t. t ++ codes "\n") (before ∙ ap (λ r. expectation_lines locations expectations ++ r) (last.0 ∙ same)) ∙ append_assoc (expectation_lines locations expectations) (expectation_line locations e) (codes "\n")
                  ∙ sym (lines_more expectations e),
            )

    -- a line that is no expectation
    pub refused_with : (lines : ℕ) → length expectations ≡ lines → (lines ≡ most_expectations) ⊎ (BeginsWithExpectation locations rest → ⊥) → AreExpectationsRefusedAfter locations text lines
    refused_with lines count why = record {
      expectations = expectations;
      rest = rest;
      first = record { is = before; fit = h.fit; few = h.few };
      count = count;
      goes_on = next.goes_on;
      no_expectation = why;
    }

    pub too_many : length expectations ≡ most_expectations → AreExpectationsRefusedAfter locations text most_expectations
    too_many full = refused_with most_expectations full (inl refl)

    -- the line of an expectation with which what is left begins
    pub line_of : AreNamed locations → (b : BeginsWithExpectation locations rest) → line ≡ expectation_line locations b.expectation
    line_of named b = go next.is
      where
        go : (rest ≡ whole_line line ++ after) ⊎ ((rest ≡ line) × (after ≡ [])) → line ≡ expectation_line locations b.expectation
        go (inl is) =
            (same_line line (expectation_line locations b.expectation) (10 ∷ after) b.rest next.clean (clean_line locations named b.expectation b.fits) refl b.ends
            (sym (append_assoc line (codes "\n") after) ∙ sym is ∙ b.is)).0
        go (inr last) =
            (same_line line (expectation_line locations b.expectation) [] b.rest next.clean (clean_line locations named b.expectation b.fits) tt b.ends (append-nil line ∙ sym last.0 ∙ b.is)).0

    none_here : AreNamed locations → ((e : Expected) → FitsExpectation locations e → line ≡ expectation_line locations e → ⊥) → AreExpectationsRefusedAfter locations text (length expectations)
    none_here named other = refused_with (length expectations) refl (inr (λ b. other b.expectation b.fits (line_of named b)))

    pub none_decoded : AreNamed locations → (o : Option Expected) → o ≡ None → Decodes (expectation_line locations) (FitsExpectation locations) line o → (n : ℕ) → n ≡ length expectations → AreExpectationsRefusedAfter locations text n
    none_decoded named o none decoded n count =
        subst (AreExpectationsRefusedAfter locations text) (sym count) (none_here named (subst (Decodes (expectation_line locations) (FitsExpectation locations) line) none decoded))
