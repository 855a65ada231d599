-- Each input has an answer.
use Rattle.std.proofs.Common.{◌⊎◌, inl, inr, Bool, refl, List}
use Rattle.il_syntax.specs.declared.program.Program.{Program}
use Rattle.il_grammar.specs.declared.rule.Rule.{Rule}
use Rattle.il_reader.specs.Refusal.{Refusal, line_refusal, ruled}
use Rattle.il_parser.proofs.Callers.{each_answer, spelled_well_formed}
use Rattle.il_parser.specs.Text.{SpellsProgram, IsFirstRefusal}
use Rattle.text_parts.specs.Lines.{Text}
use Rattle.litmus_text.specs.declared.fault.LitmusRule.{LitmusRule}
use Rattle.litmus_text.specs.declared.fault.LitmusRule.TheVariants.{X, Grammar}
use Rattle.litmus_text.specs.Expectation.{Expected, named_locations}
use Rattle.litmus_text.specs.Laws.{LitmusInputsReadOrAreRefused}
use Rattle.litmus_text.specs.Refusals.{expectation_line_number}
use Rattle.litmus_text.specs.Reading.{DividesLitmus, ReadsLitmus, IsFirstLitmusRefusal, of_program, of_expectations}
use Rattle.litmus_text.proofs.EachExpectation.{HasExpectationsAnswer, each_expectations}
use Rattle.litmus_text.proofs.Names.{are_named}
use Rattle.litmus_text.proofs.Parts.{each_parted}

module _ (finals : Bool) (input a b : Text) (divided : DividesLitmus input a b) where
  abbrev HasAnswer : Type 0
  HasAnswer = ((program : Program) × (expectations : List Expected) × ReadsLitmus finals input program expectations) ⊎ ((r : Refusal LitmusRule) × IsFirstLitmusRefusal finals input r)

  with_expectations : (p : Program) → SpellsProgram a p → HasExpectationsAnswer (named_locations finals p) b → HasAnswer
  with_expectations p spelled (inl x) = inl (p, x.0, record { program_text = a; expectations_text = b; divided = divided; spelled = spelled; reads = x.1 })
  with_expectations p spelled (inr x) = inr (line_refusal X (expectation_line_number a x.0), of_expectations a b p x.0 divided spelled x.1 refl)

  with_program : ((p : Program) × SpellsProgram a p) ⊎ ((r : Refusal Rule) × IsFirstRefusal a r) → HasAnswer
  with_program (inl x) = with_expectations x.0 x.1 (each_expectations (named_locations finals x.0) (are_named x.0 (spelled_well_formed a x.0 x.1) finals) b)
  with_program (inr x) = inr (ruled Grammar x.0, of_program a b x.0 divided x.1 refl)

pub each_input : LitmusInputsReadOrAreRefused
each_input finals input =
    let parts = each_parted input in
    with_program finals input parts.0 parts.1 parts.2 (each_answer parts.0)
