use Rattle.std.proofs.Common.{subst}
use Rattle.text_parts.specs.Division.{LacksLine, DividesAtLine}
use Rattle.seq_text.proofs.Answered.{eventless}
use Rattle.seq_text.proofs.input.read_input.Goals as goal

pub returns-in_default-divide_at_line-clause-answer : goal.returns-in_default-divide_at_line-clause-answer
returns-in_default-divide_at_line-clause-answer c =
    let at = subst (λ word. DividesAtLine word c.args.input.now c.in-Some.source_text.now c.in-Some.rest.now) c.as_slice.ensures c.in-Some.ensures in
    let none = subst (λ word. LacksLine word c.in-Some.rest.now) c.as_slice-2.ensures c.in_default-divide_at_line.ensures in
    eventless c.args.input.now c.at_line-in_default-divide_at_line.result c.in-Some.source_text.now c.in-Some.rest.now at none c.at_line-in_default-divide_at_line.ensures

pub returns-clause-answer : goal.returns-clause-answer
returns-clause-answer c =
    let at = subst (λ word. DividesAtLine word c.args.input.now c.in-Some.source_text.now c.in-Some.rest.now) c.as_slice.ensures c.in-Some.ensures in
    let at' =
    subst (λ word. DividesAtLine word c.in-Some.rest.now c.in-Some-divide_at_line.target_text.now c.in-Some-divide_at_line.events_text.now) c.as_slice-2.ensures c.in-Some-divide_at_line.ensures in
    c.texts.ensures.answer c.args.input.now (record { rest = c.in-Some.rest.now; at_target = at; at_events = at' })
