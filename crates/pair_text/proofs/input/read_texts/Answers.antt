use Rattle.std.proofs.Common.{◌≡◌}
use Rattle.il_reader.proofs.Callers.{only, exact}
use Rattle.pair_text.specs.Reading.{SpellTexts, IsFirstOfTexts}
use Rattle.pair_text.proofs.OneAnswer.{one_texts_refusal, same_texts, texts_unrefused}
use Rattle.pair_text.proofs.input.read_texts.Goals as goal

pub returns-clause-only : goal.returns-clause-only
returns-clause-only c p q spelled =
    let a = c.args.source_text.now in
    let b = c.args.target_text.now in
    only (λ x. SpellTexts a b x.source x.target) (IsFirstOfTexts a b) (λ x. (x.source ≡ p) × (x.target ≡ q)) (λ x reads. same_texts a b x.source x.target p q reads spelled)
    (λ r refused. texts_unrefused a b p q r spelled refused) c.texts.result c.texts.ensures.answer

pub returns-clause-exact : goal.returns-clause-exact
returns-clause-exact c r refused =
    let a = c.args.source_text.now in
    let b = c.args.target_text.now in
    exact (λ x. SpellTexts a b x.source x.target) (IsFirstOfTexts a b) r (λ x reads. texts_unrefused a b x.source x.target r reads refused)
    (λ q other. one_texts_refusal a b q r other refused) c.texts.result c.texts.ensures.answer
