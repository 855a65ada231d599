use Rattle.std.proofs.Common.{◌≡◌, ◌∙◌, sym, true, false}
use Rattle.text_parts.specs.Division.{at_line}
use Rattle.text_parts.proofs.OtherLines.{divided_first, lacks_last}
use Rattle.text_parts.proofs.division.divide_at_line.Goals as goal

pub returns-in-Some : goal.returns-in-Some
returns-in-Some c =
    at_line (divided_first c.args.word.now c.args.text.now c.past_others-rest.result.now c.in-Some._line.now c.in-Some.after.now c.past_others-rest.ensures.past c.past_others-rest.ensures.stops
    c.in-Some.ensures.0 c.in-Some.ensures.1)

pub returns-in-None-2 : goal.returns-in-None-2
returns-in-None-2 c =
    lacks_last c.args.word.now c.args.text.now c.past_others-rest.result.now c.past_others-rest.ensures.past c.in-None.ensures
    (λ same. let bad : false ≡ true = sym c.if-is_word.false ∙ c.is_word.ensures.1 same in absurd cc)
