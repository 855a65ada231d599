-- Two texts spell programs in one way, and each input is read in one way, or they have one first refusal.
use Rattle.std.specs.Prelude.{◌≡◌, ◌⊎◌}
use Rattle.il_syntax.specs.declared.program.Program.{Program}
use Rattle.il_grammar.specs.declared.rule.Rule.{Rule}
use Rattle.il_reader.specs.Refusal.{Refusal}
use Rattle.text_parts.specs.Lines.{Text}
use Rattle.pair_text.specs.declared.fault.PairRule.{PairRule}
use Rattle.pair_text.specs.Reading.{SpellTexts, IsFirstOfTexts, ReadsPair, IsFirstPairRefusal}

-- two texts are those of programs or are refused
abbrev pub TextsSpellOrAreRefused : Type 0
TextsSpellOrAreRefused = (source_text target_text : Text)
    → ((source : Program) × (target : Program) × SpellTexts source_text target_text source target) ⊎ ((r : Refusal Rule) × IsFirstOfTexts source_text target_text r)

abbrev pub SpelledTextsAreNotRefused : Type 0
SpelledTextsAreNotRefused = (source_text target_text : Text) (source target : Program) (r : Refusal Rule) → SpellTexts source_text target_text source target
    → IsFirstOfTexts source_text target_text r → ⊥

abbrev pub TextsHaveOneFirstRefusal : Type 0
TextsHaveOneFirstRefusal = (source_text target_text : Text) (r q : Refusal Rule) → IsFirstOfTexts source_text target_text r → IsFirstOfTexts source_text target_text q → r ≡ q

-- inputs read or are refused
abbrev pub PairsReadOrAreRefused : Type 0
PairsReadOrAreRefused = (input : Text) → ((source : Program) × (target : Program) × ReadsPair input source target) ⊎ ((r : Refusal PairRule) × IsFirstPairRefusal input r)

abbrev pub PairsReadInOneWay : Type 0
PairsReadInOneWay = (input : Text) (source target source' target' : Program) → ReadsPair input source target → ReadsPair input source' target'
    → (source ≡ source') × (target ≡ target')

abbrev pub PairsThatReadAreNotRefused : Type 0
PairsThatReadAreNotRefused = (input : Text) (source target : Program) (r : Refusal PairRule) → ReadsPair input source target → IsFirstPairRefusal input r → ⊥

abbrev pub PairsHaveOneFirstRefusal : Type 0
PairsHaveOneFirstRefusal = (input : Text) (r q : Refusal PairRule) → IsFirstPairRefusal input r → IsFirstPairRefusal input q → r ≡ q
