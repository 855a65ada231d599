-- The faults of the code are the refusals of the texts and of the input.
use Rattle.std.proofs.Common.{◌≡◌, ◌+◌, ◌-◌, ◌^◌, ◌<◌, ◌≤◌, sym, subst, refl, length, Err, arith}
use Rattle.text_parts.specs.Lines.{Text, newlines}
use Rattle.text_parts.specs.Division.{DividesAtLine}
use Rattle.text_parts.proofs.Callers.{few_newlines, short_parts}
use Rattle.il_syntax.specs.declared.program.Program.{Program}
use Rattle.il_grammar.specs.declared.rule.Rule.{Rule}
use Rattle.il_reader.specs.Refusal.{IfRefused, after_lines, fault_map, ruled}
use Rattle.il_reader.specs.declared.fault.InputFault.{InputFault}
use Rattle.il_reader.specs.declared.fault.InputFault.TheVariants.{Refused, NoMemory}
use Rattle.il_parser.specs.Text.{SpellsProgram, IsFirstRefusal}
use Rattle.il_parser.proofs.Callers.{refusal_line}
use Rattle.pair_text.specs.declared.fault.PairRule.{PairRule}
use Rattle.pair_text.specs.declared.fault.PairRule.TheVariants.{Grammar}
use Rattle.pair_text.specs.Refusals.{target_word, before_target}
use Rattle.pair_text.specs.Reading.{IsFirstOfTexts, of_source, of_target, of_texts, IsTextsAnswer, IsPairAnswer}

-- two texts

module _ (source_text target_text : Text) where
  pub source_answer : (f : InputFault Rule) → IfRefused f (λ r. IsFirstRefusal source_text r) → IsTextsAnswer source_text target_text (Err f)
  source_answer (Refused rule line column) h = of_source h
  source_answer NoMemory h = tt

  target_refused : (p : Program) → SpellsProgram source_text p → (f : InputFault Rule) → IfRefused f (λ r. IsFirstRefusal target_text r)
      → IsTextsAnswer source_text target_text (Err (fault_map (after_lines (newlines (before_target source_text))) f))
  target_refused p spells (Refused rule line column) h = of_target p (record { rule = rule; line = line; column = column }) spells h refl
  target_refused p spells NoMemory h = tt

  pub target_answer : (p : Program) → SpellsProgram source_text p → (f g : InputFault Rule) → IfRefused f (λ r. IsFirstRefusal target_text r)
      → g ≡ fault_map (after_lines (newlines (before_target source_text))) f → IsTextsAnswer source_text target_text (Err g)
  target_answer p spells f g h is = subst (λ e. IsTextsAnswer source_text target_text (Err e)) (sym is) (target_refused p spells f h)

  -- the source's lines and the target's together are few
  pub small_target : (f : InputFault Rule) → length source_text + length target_text < 2 ^ 32 - 3 → IfRefused f (λ r. IsFirstRefusal target_text r)
      → IfRefused f (λ r. newlines source_text + 1 + r.line < 2 ^ 32)
  small_target (Refused rule line column) small h = let low = refusal_line target_text _ h in omega (arith, low, few_newlines source_text)
  small_target NoMemory small h = tt

-- an input

module _ (input source_text target_text : Text) (divided : DividesAtLine target_word input source_text target_text) where
  texts_refused : (f : InputFault Rule) → IfRefused f (λ r. IsFirstOfTexts source_text target_text r) → IsPairAnswer input (Err (fault_map (ruled Grammar) f))
  texts_refused (Refused rule line column) h = of_texts source_text target_text (record { rule = rule; line = line; column = column }) divided h refl
  texts_refused NoMemory h = tt

  pub texts_answer : (f : InputFault Rule) (fault : InputFault PairRule) → IfRefused f (λ r. IsFirstOfTexts source_text target_text r) → fault ≡ fault_map (ruled Grammar) f → IsPairAnswer input (Err fault)
  texts_answer f fault h is = subst (λ e. IsPairAnswer input (Err e)) (sym is) (texts_refused f h)

  -- the texts are shorter than the input by the line between them
  pub parts_small : length input < 2 ^ 32 - 1 → length source_text + length target_text < 2 ^ 32 - 3
  parts_small small = let short = short_parts target_word input source_text target_text divided in omega arith
