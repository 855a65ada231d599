use Rattle.std.proofs.Common.{◌≡◌, List, map, rules}
use Rattle.std.specs.List.{All}
use Rattle.litmus_text.specs.Expectation.{FitsWord, expected_word, named_locations}
use Rattle.litmus_text.specs.declared.expectation.ExpectedWord.{ExpectedWord}
use Rattle.litmus_text.proofs.ExpectationWords.{more_words}
use Rattle.litmus_text.proofs.line.of_kind.Goals as goal

pub returns-in-None : goal.returns-in-None
returns-in-None c e fits is =
    let locations = named_locations c.args.finals c.args.p.now in
    let none : (xs : List ExpectedWord) → All (FitsWord locations) xs → map (λ w. w.now) c.args.words.now ≡ map (expected_word locations) xs → ⊥ = search rules in
    none e.words fits (more_words locations c.args.some (map (λ w. w.now) c.args.words.now) e is)
