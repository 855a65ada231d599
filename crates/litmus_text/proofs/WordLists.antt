-- Words that are read, one after the other.
use Rattle.std.proofs.Common.{◌≡◌, ◌∙◌, ◌+◌, ◌<◌, ℕ, zero, suc, sym, ap, ap₂, subst, Bor, map, List, [], ◌∷◌, ◌++◌, length, get_or, take, arith, Option, None}
use Rattle.std.specs.List.{All}
use Rattle.std.proofs.lemmas.List.{map-append, take_more}
use Rattle.std.proofs.lemmas.List.Elements.{All-head, All-push, All-tail}
use Rattle.text_parts.specs.Lines.{Text}
use Rattle.journal_text.specs.Kind.{Decodes}
use Rattle.il_syntax.specs.declared.program.Location.{Location}
use Rattle.litmus_text.specs.Expectation.{FitsWord, expected_word}
use Rattle.litmus_text.specs.declared.expectation.ExpectedWord.{ExpectedWord}

-- the texts of words
abbrev pub texts_of : List (Bor Text) → List Text
texts_of words = map (λ w. w.now) words

-- what the first words are
pub record HasWords (locations : List Location) (words : List (Bor Text)) (xs : List ExpectedWord) : Type 0 where
  pub fit : All (FitsWord locations) xs
  pub words_are : texts_of words ≡ map (expected_word locations) xs

module _ (locations : List Location) where
  pub word_more : (words : List (Bor Text)) (xs new : List ExpectedWord) (i : ℕ) (d : Bor Text) (x : ExpectedWord) → i < length words → HasWords locations (take i words) xs → FitsWord locations x
      → (get_or words i d).now ≡ expected_word locations x → new ≡ xs ++ x ∷ [] → HasWords locations (take (i + 1) words) new
  word_more words xs new i d x below h fits is more = record {
    fit = subst (All (FitsWord locations)) (sym more) (All-push (FitsWord locations) xs x h.fit fits);
    words_are = ap texts_of (take_more words i d below) ∙ map-append (λ w. w.now) (take i words) (get_or words i d ∷ [])
        ∙ ap₂ (λ (a b : List Text). a ++ b) h.words_are (ap (λ (t : Text). t ∷ []) is) ∙ sym (map-append (expected_word locations) xs (x ∷ [])) ∙ ap (map (expected_word locations)) (sym more);
  }

  -- where a word is nothing that is read the words are not
  at_word : (words : List (Bor Text)) (xs : List ExpectedWord) (i : ℕ) (d : Bor Text) → i < length words → All (FitsWord locations) xs → texts_of words ≡ map (expected_word locations) xs
      → (x : ExpectedWord) × FitsWord locations x × ((get_or words i d).now ≡ expected_word locations x)
  at_word [] xs i d below fit same = absurd (omega (arith, below))
  at_word (w ∷ ws) [] i d below fit same = absurd cc
  at_word (w ∷ ws) (x ∷ xs) zero d below fit same = (x, All-head (FitsWord locations) x xs fit, cc)
  at_word (w ∷ ws) (x ∷ xs) (suc i) d below fit same =
      let rest : texts_of ws ≡ map (expected_word locations) xs = cc in
      at_word ws xs i d (omega (arith, below)) (All-tail (FitsWord locations) x xs fit) rest

  no_words : (words : List (Bor Text)) (i : ℕ) (d : Bor Text) → i < length words → ((x : ExpectedWord) → FitsWord locations x → (get_or words i d).now ≡ expected_word locations x → ⊥) → (xs : List ExpectedWord)
      → All (FitsWord locations) xs → texts_of words ≡ map (expected_word locations) xs → ⊥
  no_words words i d below none xs fit same =
      let x = at_word words xs i d below fit same in
      none x.0 x.1 x.2

  pub none_found : (words : List (Bor Text)) (i : ℕ) (d : Bor Text) → i < length words → (r : Option ExpectedWord) → r ≡ None → Decodes (expected_word locations) (FitsWord locations) (get_or words i d).now r
      → (xs : List ExpectedWord) → All (FitsWord locations) xs → texts_of words ≡ map (expected_word locations) xs → ⊥
  none_found words i d below r none decoded = no_words words i d below (subst (Decodes (expected_word locations) (FitsWord locations) (get_or words i d).now) none decoded)
