use Rattle.text_parts.proofs.OtherLines.{divided_first}
use Rattle.text_parts.proofs.division.divide_at_whole_line.Goals as goal

pub returns-in-Some : goal.returns-in-Some
returns-in-Some c =
    divided_first c.args.word.now c.args.text.now c.past_others-rest.result.now c.in-Some._line.now c.in-Some.after.now c.past_others-rest.ensures.past c.past_others-rest.ensures.stops
    c.in-Some.ensures.0 c.in-Some.ensures.1
