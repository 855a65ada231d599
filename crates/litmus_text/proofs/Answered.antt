-- The answers of the code are those of the input.
use Rattle.std.proofs.Common.{◌≡◌, ◌+◌, ◌≤◌, ◌++◌, ℕ, Bool, sym, subst, ap, refl, List, Err, arith}
use Rattle.text_parts.specs.Lines.{Text, newlines, whole_line}
use Rattle.il_syntax.specs.declared.program.Program.{Program}
use Rattle.il_grammar.specs.declared.rule.Rule.{Rule}
use Rattle.il_parser.specs.Text.{SpellsProgram, IsFirstRefusal}
use Rattle.il_reader.specs.Refusal.{IfRefused, fault_map, line_refusal, refused, ruled}
use Rattle.il_reader.specs.declared.fault.InputFault.{InputFault}
use Rattle.il_reader.specs.declared.fault.InputFault.TheVariants.{Refused, NoMemory}
use Rattle.litmus_text.specs.declared.fault.LitmusRule.{LitmusRule}
use Rattle.litmus_text.specs.declared.fault.LitmusRule.TheVariants.{X, Grammar}
use Rattle.il_syntax.specs.declared.program.Location.{Location}
use Rattle.litmus_text.specs.Expectation.{named_locations}
use Rattle.litmus_text.specs.Expectations.{AreExpectationsRefusedAfter}
use Rattle.litmus_text.specs.Refusals.{expect_word}
use Rattle.litmus_text.specs.Reading.{DividesLitmus, of_program, of_expectations, IsLitmusAnswer}

module _ (finals : Bool) (input : Text) (fault : InputFault LitmusRule) (a b : Text) (divided : DividesLitmus input a b) where
  of_parse : (f : InputFault Rule) → IfRefused f (λ r. IsFirstRefusal a r) → IsLitmusAnswer finals input (Err (fault_map (ruled Grammar) f))
  of_parse (Refused rule line column) h = of_program a b (record { rule = rule; line = line; column = column }) divided h refl
  of_parse NoMemory h = tt

  pub program_refused : (f : InputFault Rule) → IfRefused f (λ r. IsFirstRefusal a r) → fault ≡ fault_map (ruled Grammar) f → IsLitmusAnswer finals input (Err fault)
  program_refused f h is = subst (λ e. IsLitmusAnswer finals input (Err e)) (sym is) (of_parse f h)

  pub expectations_refused : (p : Program) (lines line : ℕ) → SpellsProgram a p → AreExpectationsRefusedAfter (named_locations finals p) b lines → line ≡ newlines (a ++ whole_line expect_word) + 1 + lines
      → fault ≡ refused (line_refusal X line) → IsLitmusAnswer finals input (Err fault)
  expectations_refused p lines line spelled refused at is =
      subst (λ e. IsLitmusAnswer finals input (Err e)) (sym is) (of_expectations a b p lines divided spelled refused (ap (λ n. line_refusal X n) at))

pub refused_few : (locations : List Location) (text : Text) (lines : ℕ) → AreExpectationsRefusedAfter locations text lines → lines ≤ 256
refused_few locations text lines h =
    let few = h.first.few in
    let count = h.count in
    omega arith
