-- Two texts, and an input, have an answer.
use Rattle.std.proofs.Common.{◌⊎◌, inl, inr, refl}
use Rattle.text_parts.specs.Lines.{Text, newlines}
use Rattle.text_parts.specs.Division.{LacksLine, DividesAtLine}
use Rattle.text_parts.proofs.Callers.{each_division}
use Rattle.il_syntax.specs.declared.program.Program.{Program}
use Rattle.il_grammar.specs.declared.rule.Rule.{Rule}
use Rattle.il_reader.specs.Refusal.{Refusal, after_lines, line_refusal, ruled}
use Rattle.il_parser.specs.Text.{SpellsProgram, IsFirstRefusal}
use Rattle.il_parser.proofs.Callers.{each_answer}
use Rattle.pair_text.specs.declared.fault.PairRule.{PairRule}
use Rattle.pair_text.specs.declared.fault.PairRule.TheVariants.{T, Grammar}
use Rattle.pair_text.specs.Refusals.{target_word, before_target}
use Rattle.pair_text.specs.Reading.{SpellTexts, IsFirstOfTexts, of_source, of_target, ReadsPair, IsFirstPairRefusal, undivided, of_texts}
use Rattle.pair_text.specs.Laws.{TextsSpellOrAreRefused, PairsReadOrAreRefused}

-- what is known of one text
abbrev Answered : Text → Type 0
Answered text = ((p : Program) × SpellsProgram text p) ⊎ ((r : Refusal Rule) × IsFirstRefusal text r)

module _ (source_text target_text : Text) where
  abbrev TextsAnswered : Type 0
  TextsAnswered = ((source : Program) × (target : Program) × SpellTexts source_text target_text source target) ⊎ ((r : Refusal Rule) × IsFirstOfTexts source_text target_text r)

  with_source : (p : Program) → SpellsProgram source_text p → Answered target_text → TextsAnswered
  with_source p spells (inl x) = inl (p, x.0, record { source_spelled = spells; target_spelled = x.1 })
  with_source p spells (inr x) = inr (after_lines (newlines (before_target source_text)) x.0, of_target p x.0 spells x.1 refl)

  with_both : Answered source_text → TextsAnswered
  with_both (inl x) = with_source x.0 x.1 (each_answer target_text)
  with_both (inr x) = inr (x.0, of_source x.1)

pub each_texts : TextsSpellOrAreRefused
each_texts source_text target_text = with_both source_text target_text (each_answer source_text)

module _ (input : Text) where
  abbrev PairAnswered : Type 0
  PairAnswered = ((source : Program) × (target : Program) × ReadsPair input source target) ⊎ ((r : Refusal PairRule) × IsFirstPairRefusal input r)

  with_texts : (a b : Text) → DividesAtLine target_word input a b → ((p : Program) × (q : Program) × SpellTexts a b p q) ⊎ ((r : Refusal Rule) × IsFirstOfTexts a b r) → PairAnswered
  with_texts a b divided (inl x) = inl (x.0, x.1, record { source_text = a; target_text = b; divided = divided; spelled = x.2 })
  with_texts a b divided (inr x) = inr (ruled Grammar x.0, of_texts a b x.0 divided x.1 refl)

  with_division : ((a : Text) × (b : Text) × DividesAtLine target_word input a b) ⊎ LacksLine target_word input → PairAnswered
  with_division (inl x) = with_texts x.0 x.1 x.2 (each_texts x.0 x.1)
  with_division (inr none) = inr (line_refusal T 1, undivided none refl)

pub each_pair : PairsReadOrAreRefused
each_pair input = with_division input (each_division target_word input)
