-- The words as the texts that clap is handed.
use Rattle.std.proofs.Common.{◌≡◌, ◌∙◌, ◌+◌, ◌<◌, ℕ, sym, ap, List, [], ◌∷◌, ◌++◌, length, get_or, map, take}
use Rattle.std.specs.Borrow.{Bor}
use Rattle.std.proofs.lemmas.List.{map-append, take_more}
use Rattle.words.specs.Spelling.{WordText}

abbrev pub texts_of : List (Bor WordText) → List WordText
texts_of = map (λ x. x.now)

-- one word more
pub texts_of-append : (words : List WordText) (texts : List (Bor WordText)) (t : Bor WordText) (i : ℕ) (d : WordText) → i < length words → texts_of texts ≡ take i words
    → t.now ≡ get_or words i d → texts_of (texts ++ t ∷ []) ≡ take (i + 1) words
texts_of-append words texts t i d below same is =
    map-append (λ (x : Bor WordText). x.now) texts (t ∷ []) ∙ ap (λ ts. ts ++ t.now ∷ []) same ∙ ap (λ w. take i words ++ w ∷ []) is ∙ sym (take_more words i d below)
