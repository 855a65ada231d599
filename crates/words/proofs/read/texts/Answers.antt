use Rattle.std.proofs.Common.{◌≡◌, ◌∙◌}
use Rattle.std.proofs.lemmas.List.{take_all}
use Rattle.words.proofs.WordTexts.{texts_of-append}
use Rattle.words.proofs.read.texts.Goals as goal

pub loop-word-preserved : goal.loop-word-preserved
loop-word-preserved c =
    let is : c.as_str.result.now ≡ c.word-item.result = c.as_str.ensures.value ∙ c.word.view_is in
    rw c.in_ok-push.ensures.items
    (texts_of-append c.deref-word-items.result.now c.loop-word.texts.items c.as_str.result c.loop-word.word-index c.word-item.result c.loop-word-test.true c.loop-word.invariant (is ∙ c.word-item.is))

pub returns : goal.returns
returns c =
    c.loop-word.invariant ∙ take_all c.loop-word.word-index c.deref-word-items.result.now c.loop-word-test.false
    ∙ c.deref-word-items.ensures.value ∙ c.words.view_is
