-- What an input must be to be read as a program and expectations, and what the first refusal of another is.
use Rattle.std.specs.Prelude.{◌≡◌, ℕ, Bool, List, [], Result}
use Rattle.text_parts.specs.Lines.{Text}
use Rattle.text_parts.specs.Division.{LacksLine, DividesAtLine}
use Rattle.il_syntax.specs.declared.program.Program.{Program}
use Rattle.il_grammar.specs.declared.rule.Rule.{Rule}
use Rattle.il_reader.specs.Refusal.{Refusal, Answers, line_refusal, ruled}
use Rattle.il_reader.specs.declared.fault.InputFault.{InputFault}
use Rattle.il_parser.specs.Text.{SpellsProgram, IsFirstRefusal}
use Rattle.litmus_text.specs.declared.fault.LitmusRule.{LitmusRule}
use Rattle.litmus_text.specs.declared.fault.LitmusRule.TheVariants.{X, Grammar}
use Rattle.litmus_text.specs.declared.input.LitmusInput.{LitmusInput}
use Rattle.litmus_text.specs.Expectation.{Expected, named_locations}
use Rattle.litmus_text.specs.Expectations.{ReadsExpectations, AreExpectationsRefusedAfter}
use Rattle.litmus_text.specs.Refusals.{expect_word, expectation_line_number}

-- The text of the program comes before the first line `expect`, and that of the expectations after it. Where there is no such
-- line the program's text is the whole input, and there are no expectations.
pub data DividesLitmus (input program_text expectations_text : Text) : Type 0 where
  at_expect : DividesAtLine expect_word input program_text expectations_text → DividesLitmus input program_text expectations_text
  whole : LacksLine expect_word input → program_text ≡ input → expectations_text ≡ [] → DividesLitmus input program_text expectations_text

-- the input is the text of the program and these expectations, which may name last values or may not
pub record ReadsLitmus (finals : Bool) (input : Text) (program : Program) (expectations : List Expected) : Type 0 where
  pub program_text : Text
  pub expectations_text : Text
  pub divided : DividesLitmus input program_text expectations_text
  pub spelled : SpellsProgram program_text program
  pub reads : ReadsExpectations (named_locations finals program) expectations_text expectations

-- the first refusal: that of the program, then the first line that is no expectation
pub data IsFirstLitmusRefusal (finals : Bool) (input : Text) (r : Refusal LitmusRule) : Type 0 where
  of_program : (program_text expectations_text : Text) (q : Refusal Rule) → DividesLitmus input program_text expectations_text
      → IsFirstRefusal program_text q → r ≡ ruled Grammar q → IsFirstLitmusRefusal finals input r
  of_expectations : (program_text expectations_text : Text) (program : Program) (lines : ℕ) → DividesLitmus input program_text expectations_text
      → SpellsProgram program_text program → AreExpectationsRefusedAfter (named_locations finals program) expectations_text lines
      → r ≡ line_refusal X (expectation_line_number program_text lines) → IsFirstLitmusRefusal finals input r

-- the answer is what the input reads as, or its first refusal
abbrev pub IsLitmusAnswer : Bool → Text → Result LitmusInput (InputFault LitmusRule) → Type 0
IsLitmusAnswer finals input = Answers (λ x. ReadsLitmus finals input x.program x.expectations.items) (IsFirstLitmusRefusal finals input)
