use Rattle.std.proofs.Common.{◌≡◌, map, take}
use Rattle.words.proofs.read.texts.Given as goal

abbrev pub invariant-loop-word : goal.invariant-loop-word
invariant-loop-word l = map (λ x. x.now) l.texts.items ≡ take l.word-index l.word-items
