-- Each text is expectations, or is refused.
use Rattle.std.proofs.Common.{◌≡◌, ◌∙◌, ◌<◌, ◌≤◌, ◌==◌, ◌⊎◌, ◌++◌, inl, inr, ℕ, zero, suc, sym, ap, ap₂, refl, Bool, true, false, codes, map, List, [], ◌∷◌, length, arith}
use Rattle.std.specs.List.{All, join_with_byte, slice_split}
use Rattle.std.proofs.lemmas.Bool.{cases_lt}
use Rattle.std.proofs.lemmas.List.Elements.{All-cons, All-head, All-tail, All-nil}
use Rattle.std.proofs.lemmas.List.Splits.{join_with_byte-slice_split}
use Rattle.std.proofs.lemmas.Slice.Eq.{bytes_eq-Decides}
use Rattle.std.specs.Prelude.{bytes_eq}
use Rattle.values_undef.specs.declared.value.Val.{Val}
use Rattle.values_undef.specs.declared.value.Val.TheVariants.{Def, Undef}
use Rattle.text_parts.specs.Lines.{Text}
use Rattle.text_parts.proofs.Callers.{HasLine, after_shorter, next_of}
use Rattle.journal_text.specs.Limits.{IsValue}
use Rattle.journal_text.proofs.Callers.{Decided, or_else, same_fact, some_below, some_value}
use Rattle.litmus.specs.declared.outcome.Printed.{Printed}
use Rattle.il_syntax.specs.declared.program.Location.{Location}
use Rattle.litmus_text.specs.Expectation.{Expected, FitsExpectation, FitsLast, FitsOutput, FitsWord, expectation_line, expectation_words, expectation_kind, expected_word, last_word, output_word}
use Rattle.litmus_text.specs.declared.expectation.ExpectedWord.{ExpectedWord}
use Rattle.litmus_text.specs.declared.expectation.ExpectedWord.TheVariants.{Output, Last}
use Rattle.litmus_text.specs.declared.expectation.LastValue.{LastValue}
use Rattle.litmus_text.specs.Expectations.{most_expectations, ReadsExpectations, AreExpectationsRefusedAfter}
use Rattle.litmus_text.proofs.ExpectationSteps.{HasTaken, all_taken, line_of, none_taken, one_taken, refused_with, too_many}
use Rattle.litmus_text.proofs.ExpectationWords.{cut_words}
use Rattle.litmus_text.proofs.Names.{AreNamed}

same_text : (a b : Text) → Decided (a ≡ b)
same_text a b = go (bytes_eq a b) refl
  where
    go : (t : Bool) → bytes_eq a b ≡ t → Decided (a ≡ b)
    go true e = inl ((bytes_eq-Decides a b).0 e)
    go false e = inr (λ same. let bad : false ≡ true = sym e ∙ (bytes_eq-Decides a b).1 same in absurd cc)

-- the word is that of the thread and a value that is a number
abbrev IsWordOf : Text → ℕ → Val → Type 0
IsWordOf word t (Def z) = word ≡ output_word (record { thread = t; value = z })
IsWordOf word t Undef = ⊥

each_word : (word : Text) (t : ℕ) (v : Val) → Decided (IsWordOf word t v)
each_word word t (Def z) = same_text word (output_word (record { thread = t; value = z }))
each_word word t Undef = inr (λ x. x)

abbrev IsOutput : Text → Type 0
IsOutput word = (o : Printed) × FitsOutput o × (word ≡ output_word o)

some_output : (word : Text) → Decided (IsOutput word)
some_output word = same_fact (some_below 16 (λ t. (v : Val) × IsValue v × IsWordOf word t v) (λ t. some_value (IsWordOf word t) (each_word word t))) there (λ x. (x.0.thread, omega_of x.1.thread, (Def x.0.value, x.1.value, x.2)))
  where
    omega_of : {t : ℕ} → t ≤ 15 → t < 16
    omega_of h = omega (arith, h)

    of_value : (t : ℕ) → t < 16 → (v : Val) → IsValue v → IsWordOf word t v → IsOutput word
    of_value t lt (Def z) fits is = (record { thread = t; value = z }, record { thread = omega (arith, lt); value = fits }, is)
    of_value t lt Undef fits is = absurd is

    there : (t : ℕ) × (t < 16) × ((v : Val) × IsValue v × IsWordOf word t v) → IsOutput word
    there x = of_value x.0 x.1 x.2.0 x.2.1 x.2.2

-- the word is that of the last value
abbrev IsLast : List Location → Text → Type 0
IsLast locations word = (l : LastValue) × FitsLast locations l × (word ≡ last_word locations l)

some_last : (locations : List Location) (word : Text) → Decided (IsLast locations word)
some_last locations word =
    same_fact (some_below (length locations) (λ i. (v : Val) × IsValue v × (word ≡ last_word locations (record { place = i; value = v })))
    (λ i. some_value (λ v. word ≡ last_word locations (record { place = i; value = v })) (λ v. same_text word (last_word locations (record { place = i; value = v })))))
    (λ x. (record { place = x.0; value = x.2.0 }, record { place = x.1; value = x.2.1 }, x.2.2)) (λ x. (x.0.place, x.1.place, (x.0.value, x.1.value, x.2)))

abbrev pub HasExpectationsAnswer : List Location → Text → Type 0
HasExpectationsAnswer locations text = ((expectations : List Expected) × ReadsExpectations locations text expectations) ⊎ ((lines : ℕ) × AreExpectationsRefusedAfter locations text lines)

module _ (locations : List Location) (named : AreNamed locations) where
  abbrev IsWord : Text → Type 0
  IsWord word = (x : ExpectedWord) × FitsWord locations x × (word ≡ expected_word locations x)

  some_word : (word : Text) → Decided (IsWord word)
  some_word word = or_else (some_output word) (λ x. (Output x.0, x.1, x.2)) (λ no_output. same_or no_output (some_last locations word))
    where
      neither : (IsOutput word → ⊥) → (IsLast locations word → ⊥) → (x : ExpectedWord) → FitsWord locations x → word ≡ expected_word locations x → ⊥
      neither no_output no_last (Output o) fits is = no_output (o, fits, is)
      neither no_output no_last (Last l) fits is = no_last (l, fits, is)

      same_or : (IsOutput word → ⊥) → Decided (IsLast locations word) → Decided (IsWord word)
      same_or no_output (inl x) = inl (Last x.0, x.1, x.2)
      same_or no_output (inr no_last) = inr (λ x. neither no_output no_last x.0 x.1 x.2)

  abbrev AreWords : List Text → Type 0
  AreWords words = (xs : List ExpectedWord) × All (FitsWord locations) xs × (words ≡ map (expected_word locations) xs)

  some_words : (words : List Text) → Decided (AreWords words)
  some_words [] = inl ([], All-nil (FitsWord locations), refl)
  some_words (w ∷ ws) = go (some_word w) (some_words ws)
    where
      first_of : (xs : List ExpectedWord) → All (FitsWord locations) xs → w ∷ ws ≡ map (expected_word locations) xs → IsWord w
      first_of [] h is = absurd cc
      first_of (x ∷ xs) h is = (x, All-head (FitsWord locations) x xs h, cc)

      rest_of : (xs : List ExpectedWord) → All (FitsWord locations) xs → w ∷ ws ≡ map (expected_word locations) xs → AreWords ws
      rest_of [] h is = absurd cc
      rest_of (x ∷ xs) h is = (xs, All-tail (FitsWord locations) x xs h, cc)

      go : Decided (IsWord w) → Decided (AreWords ws) → Decided (AreWords (w ∷ ws))
      go (inl x) (inl y) = inl (x.0 ∷ y.0, All-cons (FitsWord locations) x.0 y.0 x.1 y.1, ap₂ (λ (v : Text) (vs : List Text). v ∷ vs) x.2 y.2)
      go (inl x) (inr none) = inr (λ z. none (rest_of z.0 z.1 z.2))
      go (inr none) other = inr (λ z. none (first_of z.0 z.1 z.2))

  abbrev IsExpectationOf : List Text → Type 0
  IsExpectationOf words = (e : Expected) × FitsExpectation locations e × (words ≡ expectation_words locations e)

  some_expectation : (words : List Text) → Decided (IsExpectationOf words)
  some_expectation [] = inr (λ x. let bad : [] ≡ expectation_words locations x.0 = x.2 in absurd cc)
  some_expectation (w ∷ ws) = go (some_words ws) (same_text w (codes "some")) (same_text w (codes "none"))
    where
      no_kind : (w ≡ codes "some" → ⊥) → (w ≡ codes "none" → ⊥) → (b : Bool) → w ≡ expectation_kind b → ⊥
      no_kind a b true is = a is
      no_kind a b false is = b is

      go : Decided (AreWords ws) → Decided (w ≡ codes "some") → Decided (w ≡ codes "none") → Decided (IsExpectationOf (w ∷ ws))
      go (inr none) a b = inr (λ x. let rest : ws ≡ map (expected_word locations) x.0.words = let words : w ∷ ws ≡ expectation_words locations x.0 = x.2 in cc in none (x.0.words, x.1, rest))
      go (inl y) (inl a) b = inl (record { some = true; words = y.0 }, y.1, ap₂ (λ (v : Text) (vs : List Text). v ∷ vs) a y.2)
      go (inl y) (inr a) (inl b) = inl (record { some = false; words = y.0 }, y.1, ap₂ (λ (v : Text) (vs : List Text). v ∷ vs) b y.2)
      go (inl y) (inr a) (inr b) = inr (λ x. let first : w ≡ expectation_kind x.0.some = let words : w ∷ ws ≡ expectation_words locations x.0 = x.2 in cc in no_kind a b x.0.some first)

  abbrev IsLineOf : Text → Type 0
  IsLineOf line = (e : Expected) × FitsExpectation locations e × (line ≡ expectation_line locations e)

  some_line : (line : Text) → Decided (IsLineOf line)
  some_line line =
      same_fact (some_expectation (slice_split (λ b. b == 32) line))
      (λ x. (x.0, x.1, sym (join_with_byte-slice_split 32 line) ∙ ap (join_with_byte 32) x.2))
      (λ x. (x.0, x.1, cut_words locations named line x.0 x.1 x.2))

  module _ (text : Text) where
    abbrev Answering : ℕ → Type 0
    Answering n = (expectations : List Expected) (rest : Text) → HasTaken locations text expectations rest → length rest < n → HasExpectationsAnswer locations text

    module _ (n : ℕ) (again : Answering n) (expectations : List Expected) (rest : Text) (h : HasTaken locations text expectations rest) (short : length rest < suc n) where
      with_line : (l : HasLine rest) → (length expectations < most_expectations) ⊎ (most_expectations ≤ length expectations) → Decided (IsLineOf l.line) → HasExpectationsAnswer locations text
      with_line l (inr full) begins = let few = h.few in inr (most_expectations, too_many locations text expectations rest l.line l.after h l.next (omega arith))
      with_line l (inl room) (inr none) =
          inr (
            length expectations,
            refused_with locations text expectations rest l.line l.after h l.next (length expectations) refl
                (inr (λ b. none (b.expectation, b.fits, line_of locations text expectations rest l.line l.after h l.next named b))),
          )
      with_line l (inl room) (inl x) =
          let less = after_shorter rest l.line l.after l.next in
          again (expectations ++ x.0 ∷ []) l.after (one_taken locations text expectations rest l.line l.after h l.next x.0 x.1 x.2 room) (omega arith)

      at_rest : HasLine rest ⊎ (rest ≡ []) → HasExpectationsAnswer locations text
      at_rest (inl l) = with_line l (cases_lt (length expectations) most_expectations) (some_line l.line)
      at_rest (inr done) = inl (expectations, all_taken locations text expectations rest h done)

    answer_from : (n : ℕ) → Answering n
    answer_from zero expectations rest h short = absurd (omega arith)
    answer_from (suc n) expectations rest h short = at_rest n (answer_from n) expectations rest h short (next_of rest)

    pub each_expectations : HasExpectationsAnswer locations text
    each_expectations = answer_from (suc (length text)) [] text (none_taken locations text) (omega arith)
