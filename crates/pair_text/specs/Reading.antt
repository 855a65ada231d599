-- What an input must be to be read as a pair of programs, and what the first refusal of another is.
use Rattle.std.specs.Prelude.{◌≡◌, Result}
use Rattle.text_parts.specs.Lines.{Text, newlines}
use Rattle.text_parts.specs.Division.{LacksLine, DividesAtLine}
use Rattle.il_syntax.specs.declared.program.Program.{Program}
use Rattle.il_grammar.specs.declared.rule.Rule.{Rule}
use Rattle.il_reader.specs.Refusal.{Refusal, Answers, after_lines, line_refusal, ruled}
use Rattle.il_reader.specs.declared.fault.InputFault.{InputFault}
use Rattle.il_parser.specs.Text.{SpellsProgram, IsFirstRefusal}
use Rattle.pair_text.specs.declared.fault.PairRule.{PairRule}
use Rattle.pair_text.specs.declared.fault.PairRule.TheVariants.{T, Grammar}
use Rattle.pair_text.specs.declared.input.ProgramPair.{ProgramPair}
use Rattle.pair_text.specs.Refusals.{target_word, before_target}

-- the texts are those of the two programs
pub record SpellTexts (source_text target_text : Text) (source target : Program) : Type 0 where
  pub source_spelled : SpellsProgram source_text source
  pub target_spelled : SpellsProgram target_text target

-- The first refusal of the texts, the line `target` between them: the source's, and where it has none the target's, its
-- lines counted from the source's first.
pub data IsFirstOfTexts (source_text target_text : Text) (r : Refusal Rule) : Type 0 where
  of_source : IsFirstRefusal source_text r → IsFirstOfTexts source_text target_text r
  of_target : (source : Program) (q : Refusal Rule) → SpellsProgram source_text source → IsFirstRefusal target_text q
      → r ≡ after_lines (newlines (before_target source_text)) q → IsFirstOfTexts source_text target_text r

-- the input is the text of the source, the line `target`, and the text of the target
pub record ReadsPair (input : Text) (source target : Program) : Type 0 where
  pub source_text : Text
  pub target_text : Text
  pub divided : DividesAtLine target_word input source_text target_text
  pub spelled : SpellTexts source_text target_text source target

-- the first refusal: no separator, then that of the texts
pub data IsFirstPairRefusal (input : Text) (r : Refusal PairRule) : Type 0 where
  undivided : LacksLine target_word input → r ≡ line_refusal T 1 → IsFirstPairRefusal input r
  of_texts : (source_text target_text : Text) (q : Refusal Rule) → DividesAtLine target_word input source_text target_text
      → IsFirstOfTexts source_text target_text q → r ≡ ruled Grammar q → IsFirstPairRefusal input r

-- the answer is what the texts spell, or their first refusal
abbrev pub IsTextsAnswer : Text → Text → Result ProgramPair (InputFault Rule) → Type 0
IsTextsAnswer source_text target_text = Answers (λ x. SpellTexts source_text target_text x.source x.target) (IsFirstOfTexts source_text target_text)

-- the answer is what the input reads as, or its first refusal
abbrev pub IsPairAnswer : Text → Result ProgramPair (InputFault PairRule) → Type 0
IsPairAnswer input = Answers (λ x. ReadsPair input x.source x.target) (IsFirstPairRefusal input)
