-- An input has one answer.
use Rattle.std.proofs.Common.{◌≡◌, ◌∙◌, ℕ, Bool, sym, ap, subst, List}
use Rattle.text_parts.specs.Lines.{Text}
use Rattle.il_reader.specs.Refusal.{line_refusal, ruled}
use Rattle.il_parser.proofs.Callers.{one_first, one_program, spelled_unrefused, spelled_well_formed}
use Rattle.il_parser.specs.Text.{SpellsProgram, IsFirstRefusal}
use Rattle.il_syntax.specs.declared.program.Program.{Program}
use Rattle.il_syntax.specs.declared.program.Location.{Location}
use Rattle.litmus_text.specs.declared.fault.LitmusRule.TheVariants.{X, Grammar}
use Rattle.litmus_text.specs.Expectation.{named_locations}
use Rattle.litmus_text.specs.Expectations.{ReadsExpectations, AreExpectationsRefusedAfter}
use Rattle.litmus_text.specs.Laws.{LitmusInputsReadInOneWay, LitmusInputsThatReadAreNotRefused, LitmusInputsHaveOneFirstRefusal}
use Rattle.litmus_text.specs.Refusals.{expectation_line_number}
use Rattle.litmus_text.specs.Reading.{of_program, of_expectations}
use Rattle.litmus_text.proofs.ExpectationLines.{not_refused, one_count, one_reading}
use Rattle.litmus_text.proofs.Names.{AreNamed, are_named}
use Rattle.litmus_text.proofs.Parts.{at_parts}

-- the locations that may be named in the text of a program, which is spelled in one way
spelled_named : (finals : Bool) (text : Text) (p : Program) → SpellsProgram text p → AreNamed (named_locations finals p)
spelled_named finals text p spelled = are_named p (spelled_well_formed text p spelled) finals

module _ (finals : Bool) (text : Text) (p q : Program) (one : SpellsProgram text p) (other : SpellsProgram text q) where
  same_named : named_locations finals p ≡ named_locations finals q
  same_named = ap (named_locations finals) (one_program text p q one other)

  -- a fact of the locations of one program is one of those of the other
  moved : (P : List Location → Type 0) → P (named_locations finals p) → P (named_locations finals q)
  moved P = subst P same_named

pub one_input : LitmusInputsReadInOneWay
one_input finals input p p' es es' h k =
    let spelled = at_parts input (λ x y. SpellsProgram x p) h.program_text h.expectations_text k.program_text k.expectations_text h.divided k.divided h.spelled in
    let here = at_parts input (λ x y. ReadsExpectations (named_locations finals p) y es) h.program_text h.expectations_text k.program_text k.expectations_text h.divided k.divided h.reads in
    let reads = moved finals k.program_text p p' spelled k.spelled (λ ls. ReadsExpectations ls k.expectations_text es) here in (
      one_program k.program_text p p' spelled k.spelled,
      one_reading (named_locations finals p') (spelled_named finals k.program_text p' k.spelled) k.expectations_text es es' reads k.reads,
    )

pub input_unrefused : LitmusInputsThatReadAreNotRefused
input_unrefused finals input p es r h (of_program a b q divided refused is) =
    spelled_unrefused a p q (at_parts input (λ x y. SpellsProgram x p) h.program_text h.expectations_text a b h.divided divided h.spelled) refused
input_unrefused finals input p es r h (of_expectations a b q lines divided spelled refused is) =
    let here = at_parts input (λ x y. SpellsProgram x p) h.program_text h.expectations_text a b h.divided divided h.spelled in
    let reads = at_parts input (λ x y. ReadsExpectations (named_locations finals p) y es) h.program_text h.expectations_text a b h.divided divided h.reads in
    not_refused (named_locations finals q) (spelled_named finals a q spelled) b lines refused es (moved finals a p q here spelled (λ ls. ReadsExpectations ls b es) reads)

pub one_refusal : LitmusInputsHaveOneFirstRefusal
one_refusal finals input r q (of_program a b s divided refused is) (of_program a' b' s' divided' refused' is') =
    is ∙ ap (ruled Grammar) (one_first a' s s' (at_parts input (λ x y. IsFirstRefusal x s) a b a' b' divided divided' refused) refused') ∙ sym is'
one_refusal finals input r q (of_program a b s divided refused is) (of_expectations a' b' p lines divided' spelled refused' is') =
    absurd (spelled_unrefused a' p s spelled (at_parts input (λ x y. IsFirstRefusal x s) a b a' b' divided divided' refused))
one_refusal finals input r q (of_expectations a b p lines divided spelled refused is) (of_program a' b' s divided' refused' is') =
    absurd (spelled_unrefused a p s spelled (at_parts input (λ x y. IsFirstRefusal x s) a' b' a b divided' divided refused'))
one_refusal finals input r q (of_expectations a b p lines divided spelled refused is) (of_expectations a' b' p' lines' divided' spelled' refused' is') =
    let there = at_parts input (λ x y. SpellsProgram x p) a b a' b' divided divided' spelled in
    let here = at_parts input (λ x y. AreExpectationsRefusedAfter (named_locations finals p) y lines) a b a' b' divided divided' refused in
    let first = at_parts input (λ x y. r ≡ line_refusal X (expectation_line_number x lines)) a b a' b' divided divided' is in
    let counts = one_count (named_locations finals p') (spelled_named finals a' p' spelled') b' lines lines' (moved finals a' p p' there spelled' (λ ls. AreExpectationsRefusedAfter ls b' lines) here) refused' in
    first ∙ ap (λ (n : ℕ). line_refusal X (expectation_line_number a' n)) counts ∙ sym is'
