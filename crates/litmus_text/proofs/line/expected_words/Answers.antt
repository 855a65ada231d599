use Rattle.litmus_text.specs.Expectation.{named_locations}
use Rattle.litmus_text.proofs.WordLists.{none_found}
use Rattle.litmus_text.proofs.line.expected_words.Goals as goal

pub returns-in-None : goal.returns-in-None
returns-in-None c = none_found (named_locations c.args.finals c.args.p.now) c.args.words.now c.loop-word.word-index _ c.loop-word-test.true c.in_ok-found.found c.in-None.is c.in_ok-found.ensures
