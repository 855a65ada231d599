-- Each text divides at a word in one way, or lacks the line.
use Rattle.std.specs.Prelude.{◌≡◌, ◌⊎◌}
use Rattle.text_parts.specs.Lines.{Text}

-- how texts divide at a word, and what those that don't are
module _ (Divides : Text → Text → Text → Text → Type 0) where
  abbrev pub DivideInOneWay : Type 0
  DivideInOneWay = (word text before after before' after' : Text) → Divides word text before after → Divides word text before' after' → (before ≡ before') × (after ≡ after')

  module _ (Lacks : Text → Text → Type 0) where
    abbrev pub DivideOrLack : Type 0
    DivideOrLack = (word text : Text) → ((before : Text) × (after : Text) × Divides word text before after) ⊎ Lacks word text

    abbrev pub DividedLackNothing : Type 0
    DividedLackNothing = (word text before after : Text) → Divides word text before after → Lacks word text → ⊥
