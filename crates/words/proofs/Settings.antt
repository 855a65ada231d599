-- What the getters of clap give of the settings that it has read.
use Rattle.std.proofs.Common.{◌≡◌, ◌∙◌, refl, ap, subst, ℕ, List, Option, Some, None, Result, map}
use Rattle.std.specs.Prelude.{MatchResult}
use Rattle.clap.specs.Matches.{first_value}
use Rattle.clap.specs.Walk.{first_of, rows_of}
use Rattle.clap.specs.declared.parser.matches.Found.{Found}
use Rattle.clap.proofs.WalkLemmas.{first_value-rows}
use Rattle.words.specs.Numbers.{IsNumber}
use Rattle.words.specs.Meaning.{GivesNumber, IsFormOf, IsWordOf, SetsNumber, SetsWord}
use Rattle.words.specs.Options.{value_of}
use Rattle.words.specs.Program.{row_of}
use Rattle.words.specs.Spelling.{Setting, WordText}
use Rattle.words.specs.declared.command.Form.{Form}
use Rattle.words.specs.declared.command.Form.TheVariants.{Text}
use Rattle.words.specs.declared.command.WordsFault.{WordsFault}
use Rattle.words.specs.declared.command.WordsFault.TheVariants.{Refused}
use Rattle.words.proofs.Allowed.{first_is}

pub set_value : (f : Found) (name : WordText) (os : List Setting) → rows_of f ≡ map row_of os → first_value f name ≡ value_of name os
set_value f name os same = first_value-rows f name ∙ ap (first_of name) same ∙ first_is name os

-- an option that is set, and one that is not
pub number_set : (low high default : ℕ) (text : WordText) (value : Option WordText) (r : Result ℕ WordsFault) → Some text ≡ value
    → MatchResult r (IsNumber low high text) (λ e. (e ≡ Refused) × ((k : ℕ) → IsNumber low high text k → ⊥))
    → MatchResult r (GivesNumber low high default value) (λ e. (e ≡ Refused) × ((k : ℕ) → GivesNumber low high default value k → ⊥))
number_set low high default text value r same h = subst (λ v. MatchResult r (GivesNumber low high default v) (λ e. (e ≡ Refused) × ((k : ℕ) → GivesNumber low high default v k → ⊥))) same h

pub number_left : (low high default : ℕ) (value : Option WordText) → None ≡ value → GivesNumber low high default value default
number_left low high default value same = subst (λ v. GivesNumber low high default v default) same refl

-- an option that must be set
pub needed_set : (low high : ℕ) (text : WordText) (value : Option WordText) (r : Result ℕ WordsFault) → Some text ≡ value → MatchResult r (IsNumber low high text) (λ e. (e ≡ Refused) × ((k : ℕ) → IsNumber low high text k → ⊥))
    → MatchResult r (SetsNumber low high value) (λ e. (e ≡ Refused) × ((k : ℕ) → SetsNumber low high value k → ⊥))
needed_set low high text value r same h = subst (λ v. MatchResult r (SetsNumber low high v) (λ e. (e ≡ Refused) × ((k : ℕ) → SetsNumber low high v k → ⊥))) same h

pub needed_left : (low high : ℕ) (value : Option WordText) → None ≡ value → (k : ℕ) → SetsNumber low high value k → ⊥
needed_left low high value same = subst (λ v. (k : ℕ) → SetsNumber low high v k → ⊥) same (λ k h. h)

-- a word that must be set
pub word_set : (text : WordText) (value : Option WordText) (r : Result WordText WordsFault) → Some text ≡ value → MatchResult r (IsWordOf text) (λ e. e ≡ Refused → (w : WordText) → IsWordOf text w → ⊥)
    → MatchResult r (SetsWord value) (λ e. e ≡ Refused → (w : WordText) → SetsWord value w → ⊥)
word_set text value r same h = subst (λ v. MatchResult r (SetsWord v) (λ e. e ≡ Refused → (w : WordText) → SetsWord v w → ⊥)) same h

pub word_left : (value : Option WordText) → None ≡ value → (w : WordText) → SetsWord value w → ⊥
word_left value same = subst (λ v. (w : WordText) → SetsWord v w → ⊥) same (λ w h. h)

-- a form
pub form_set : (word : WordText) (value : Option WordText) (r : Result Form WordsFault) → Some word ≡ value → MatchResult r (IsFormOf (Some word)) (λ e. (e ≡ Refused) × ((f : Form) → IsFormOf (Some word) f → ⊥))
    → MatchResult r (IsFormOf value) (λ e. (e ≡ Refused) × ((f : Form) → IsFormOf value f → ⊥))
form_set word value r same h = subst (λ v. MatchResult r (IsFormOf v) (λ e. (e ≡ Refused) × ((f : Form) → IsFormOf v f → ⊥))) same h

pub form_left : (value : Option WordText) → None ≡ value → IsFormOf value Text
form_left value same = subst (λ v. IsFormOf v Text) same refl
