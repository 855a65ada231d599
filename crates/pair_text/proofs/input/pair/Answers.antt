use Rattle.std.proofs.Common.{subst}
use Rattle.text_parts.specs.Division.{DividesAtLine}
use Rattle.pair_text.proofs.Answered.{texts_answer}
use Rattle.pair_text.proofs.input.pair.Goals as goal

pub returns-in-Err-clause-answer : goal.returns-in-Err-clause-answer
returns-in-Err-clause-answer c =
    let divided = subst (λ word. DividesAtLine word c.args.input.now c.in-Some.source_text.now c.in-Some.target_text.now) c.as_slice.ensures c.in-Some.ensures in
    texts_answer c.args.input.now c.in-Some.source_text.now c.in-Some.target_text.now divided c.in-Err.fault c.pair_fault.result c.in-Err.ensures.answer c.pair_fault.ensures
