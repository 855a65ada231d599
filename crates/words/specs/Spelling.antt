-- What the words after the command spell: settings of its options, in any order.
use Rattle.std.specs.Prelude.{◌++◌, ℕ, List, [], ◌∷◌, codes}

-- the bytes of a word
abbrev pub WordText : Type 0
WordText = List ℕ

-- an option that was given, and its value
pub record Setting : Type 0 where
  pub name : WordText
  pub value : WordText

-- each setting in turn, in two words as `--name value` or in one as `--name=value`
pub data SpellsSettings : List Setting → List WordText → Type 0 where
  nothing : SpellsSettings [] []
  apart : (name value : WordText) {settings : List Setting} {words : List WordText} → SpellsSettings settings words
      → SpellsSettings (record { name = name; value = value } ∷ settings) ((codes "--" ++ name) ∷ (value ∷ words))
  joined : (name value : WordText) {settings : List Setting} {words : List WordText} → SpellsSettings settings words
      → SpellsSettings (record { name = name; value = value } ∷ settings) ((codes "--" ++ (name ++ (codes "=" ++ value))) ∷ words)
