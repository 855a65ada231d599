-- Two texts, and an input, have one answer.
use Rattle.std.proofs.Common.{◌≡◌, ◌∙◌, sym, ap, subst}
use Rattle.text_parts.specs.Lines.{Text, newlines}
use Rattle.text_parts.specs.Division.{DividesAtLine}
use Rattle.text_parts.proofs.Callers.{one_division, never_lacks}
use Rattle.il_syntax.specs.declared.program.Program.{Program}
use Rattle.il_reader.specs.Refusal.{after_lines, ruled}
use Rattle.il_parser.proofs.Callers.{one_program, spelled_unrefused, one_first}
use Rattle.pair_text.specs.declared.fault.PairRule.TheVariants.{Grammar}
use Rattle.pair_text.specs.Refusals.{target_word, before_target}
use Rattle.pair_text.specs.Reading.{SpellTexts, IsFirstOfTexts, of_source, of_target, ReadsPair, IsFirstPairRefusal, undivided, of_texts}
use Rattle.pair_text.specs.Laws.{SpelledTextsAreNotRefused, TextsHaveOneFirstRefusal, PairsReadInOneWay, PairsThatReadAreNotRefused, PairsHaveOneFirstRefusal}

-- two texts

pub same_texts : (source_text target_text : Text) (p q p' q' : Program) → SpellTexts source_text target_text p q → SpellTexts source_text target_text p' q' → (p ≡ p') × (q ≡ q')
same_texts source_text target_text p q p' q' h k = (one_program source_text p p' h.source_spelled k.source_spelled, one_program target_text q q' h.target_spelled k.target_spelled)

pub texts_unrefused : SpelledTextsAreNotRefused
texts_unrefused source_text target_text p q r h (of_source refused) = spelled_unrefused source_text p r h.source_spelled refused
texts_unrefused source_text target_text p q r h (of_target p' s spells refused is) = spelled_unrefused target_text q s h.target_spelled refused

pub one_texts_refusal : TextsHaveOneFirstRefusal
one_texts_refusal source_text target_text r q (of_source refused) (of_source refused') = one_first source_text r q refused refused'
one_texts_refusal source_text target_text r q (of_source refused) (of_target p s spells refused' is) = absurd (spelled_unrefused source_text p r spells refused)
one_texts_refusal source_text target_text r q (of_target p s spells refused is) (of_source refused') = absurd (spelled_unrefused source_text p q spells refused')
one_texts_refusal source_text target_text r q (of_target p s spells refused is) (of_target p' s' spells' refused' is') =
    is ∙ ap (after_lines (newlines (before_target source_text))) (one_first target_text s s' refused refused') ∙ sym is'

-- an input

-- a fact of the texts of one division is one of those of another
at_same : (P : Text → Text → Type 0) (input a b a' b' : Text) → DividesAtLine target_word input a b → DividesAtLine target_word input a' b' → P a b → P a' b'
at_same P input a b a' b' h k fact =
    let same = one_division target_word input a b a' b' h k in
    subst (λ t. P t b') same.0 (subst (λ t. P a t) same.1 fact)

pub one_pair : PairsReadInOneWay
one_pair input p q p' q' h k =
    same_texts k.source_text k.target_text p q p' q'
    (at_same (λ a b. SpellTexts a b p q) input h.source_text h.target_text k.source_text k.target_text h.divided k.divided h.spelled) k.spelled

pub pair_unrefused : PairsThatReadAreNotRefused
pair_unrefused input p q r h (undivided none is) = never_lacks target_word input h.source_text h.target_text h.divided none
pair_unrefused input p q r h (of_texts a b s divided refused is) =
    texts_unrefused a b p q s (at_same (λ a b. SpellTexts a b p q) input h.source_text h.target_text a b h.divided divided h.spelled) refused

pub one_pair_refusal : PairsHaveOneFirstRefusal
one_pair_refusal input r q (undivided none is) (undivided none' is') = is ∙ sym is'
one_pair_refusal input r q (undivided none is) (of_texts a b s divided refused is') = absurd (never_lacks target_word input a b divided none)
one_pair_refusal input r q (of_texts a b s divided refused is) (undivided none is') = absurd (never_lacks target_word input a b divided none)
one_pair_refusal input r q (of_texts a b s divided refused is) (of_texts a' b' s' divided' refused' is') =
    is ∙ ap (ruled Grammar) (one_texts_refusal a' b' s s' (at_same (λ a b. IsFirstOfTexts a b s) input a b a' b' divided divided' refused) refused') ∙ sym is'
