-- What the text after the line `expect` must be to be read, and where another is refused.
use Rattle.std.specs.Prelude.{◌≡◌, ◌≢◌, ◌≤◌, ◌⊎◌, ℕ, List, [], ◌++◌, length}
use Rattle.std.specs.List.{All, flat_map}
use Rattle.il_syntax.specs.declared.program.Location.{Location}
use Rattle.text_parts.specs.Lines.{Text, IsLineEnd, whole_line}
use Rattle.litmus_text.specs.declared.expectations.ExpectationsFault.{ExpectationsFault}
use Rattle.litmus_text.specs.declared.expectations.ExpectationsFault.TheVariants.{Refused, NoMemory}
use Rattle.litmus_text.specs.Expectation.{Expected, expectation_line, FitsExpectation}

-- a line for each expectation
abbrev pub expectation_lines : List Location → List Expected → Text
expectation_lines locations expectations = flat_map (λ e. whole_line (expectation_line locations e)) expectations

-- the most lines of expectations
abbrev pub most_expectations : ℕ
most_expectations = 256

-- a text begins with these expectations, which may name these locations, each on a line of its own, and then comes the rest
pub record HasExpectations (locations : List Location) (text : Text) (expectations : List Expected) (rest : Text) : Type 0 where
  pub is : text ≡ expectation_lines locations expectations ++ rest
  pub fit : All (FitsExpectation locations) expectations
  pub few : length expectations ≤ most_expectations

-- a text begins with the line of an expectation; the newline of a text's last line may be missing
pub record BeginsWithExpectation (locations : List Location) (text : Text) : Type 0 where
  pub expectation : Expected
  pub rest : Text
  pub is : text ≡ expectation_line locations expectation ++ rest
  pub ends : IsLineEnd rest
  pub fits : FitsExpectation locations expectation

-- the text is these expectations, as it stands or with a newline at its end
pub data ReadsExpectations (locations : List Location) (text : Text) (expectations : List Expected) : Type 0 where
  finished : HasExpectations locations text expectations [] → ReadsExpectations locations text expectations
  unfinished : HasExpectations locations (whole_line text) expectations [] → ReadsExpectations locations text expectations

-- The text is refused after so many lines: they are expectations, and another line comes that is none, or there are as many
-- expectations as there may be.
pub record AreExpectationsRefusedAfter (locations : List Location) (text : Text) (lines : ℕ) : Type 0 where
  pub expectations : List Expected
  pub rest : Text
  pub first : HasExpectations locations text expectations rest
  pub count : length expectations ≡ lines
  pub goes_on : rest ≢ []
  pub no_expectation : (lines ≡ most_expectations) ⊎ (BeginsWithExpectation locations rest → ⊥)

-- why a text is refused; want of memory says nothing of it
abbrev pub IsExpectationsFault : List Location → Text → ExpectationsFault → Type 0
IsExpectationsFault locations text (Refused lines) = AreExpectationsRefusedAfter locations text lines
IsExpectationsFault locations text NoMemory = Unit {0}
