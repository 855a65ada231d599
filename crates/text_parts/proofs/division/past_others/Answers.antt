use Rattle.std.proofs.Common.{◌≡◌, ◌∙◌, sym, true, false}
use Rattle.text_parts.proofs.OtherLines.{past_one, stops_here}
use Rattle.text_parts.proofs.division.past_others.Goals as goal

pub lines-preserved : goal.lines-preserved
lines-preserved c =
    past_one c.args.word.now c.args.text.now c.lines.rest.now c.in-Some.line.now c.in-Some.after.now c.lines.invariant c.in-Some.ensures.0 c.in-Some.ensures.1
    (λ same. let bad : false ≡ true = sym c.if-is_word.false ∙ c.is_word.ensures.1 same in absurd cc)

pub returns-then-is_word-clause-stops : goal.returns-then-is_word-clause-stops
returns-then-is_word-clause-stops c =
    stops_here c.args.word.now c.lines.rest.now c.in-Some.line.now c.in-Some.after.now c.in-Some.ensures.0 c.in-Some.ensures.1 (c.is_word.ensures.0 c.if-is_word.true)
