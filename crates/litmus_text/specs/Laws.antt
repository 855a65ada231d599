-- Each input is read in one way, or has one first refusal, where expectations may name last values and where they may not.
use Rattle.std.specs.Prelude.{◌≡◌, ◌⊎◌, Bool, false, List}
use Rattle.std.specs.List.{All}
use Rattle.il_syntax.specs.declared.program.Program.{Program}
use Rattle.text_parts.specs.Lines.{Text}
use Rattle.il_reader.specs.Refusal.{Refusal}
use Rattle.litmus_text.specs.declared.fault.LitmusRule.{LitmusRule}
use Rattle.litmus_text.specs.Expectation.{Expected}
use Rattle.litmus_text.specs.declared.expectation.ExpectedWord.{ExpectedWord}
use Rattle.litmus_text.specs.declared.expectation.ExpectedWord.TheVariants.{Output, Last}
use Rattle.litmus_text.specs.Reading.{ReadsLitmus, IsFirstLitmusRefusal}

abbrev pub LitmusInputsReadOrAreRefused : Type 0
LitmusInputsReadOrAreRefused = (finals : Bool) (input : Text) → ((program : Program) × (expectations : List Expected) × ReadsLitmus finals input program expectations) ⊎ ((r : Refusal LitmusRule) × IsFirstLitmusRefusal finals input r)

abbrev pub LitmusInputsReadInOneWay : Type 0
LitmusInputsReadInOneWay = (finals : Bool) (input : Text) (program program' : Program) (expectations expectations' : List Expected) → ReadsLitmus finals input program expectations → ReadsLitmus finals input program' expectations'
    → (program ≡ program') × (expectations ≡ expectations')

abbrev pub LitmusInputsThatReadAreNotRefused : Type 0
LitmusInputsThatReadAreNotRefused = (finals : Bool) (input : Text) (program : Program) (expectations : List Expected) (r : Refusal LitmusRule) → ReadsLitmus finals input program expectations → IsFirstLitmusRefusal finals input r → ⊥

abbrev pub LitmusInputsHaveOneFirstRefusal : Type 0
LitmusInputsHaveOneFirstRefusal = (finals : Bool) (input : Text) (r q : Refusal LitmusRule) → IsFirstLitmusRefusal finals input r → IsFirstLitmusRefusal finals input q → r ≡ q

-- the word is that of an output
abbrev pub NamesOutput : ExpectedWord → Type 0
NamesOutput (Output o) = Unit {0}
NamesOutput (Last l) = ⊥

-- Where last values may not be named, expectations name outputs alone.
abbrev pub OutputsAloneAreNamed : Type 0
OutputsAloneAreNamed = (input : Text) (program : Program) (expectations : List Expected) → ReadsLitmus false input program expectations → All (λ e. All NamesOutput e.words) expectations
