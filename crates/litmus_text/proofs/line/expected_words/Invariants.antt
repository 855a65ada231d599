use Rattle.std.proofs.Common.{take}
use Rattle.litmus_text.specs.Expectation.{named_locations}
use Rattle.litmus_text.proofs.WordLists.{HasWords}
use Rattle.litmus_text.proofs.line.expected_words.Given as goal

abbrev pub invariant-loop-word : goal.invariant-loop-word
invariant-loop-word l = HasWords (named_locations l.finals l.p) (take l.word-index l.words) l.read.items
