use Rattle.std.proofs.Common.{arith}
use Rattle.text_parts.proofs.Callers.{few_newlines}
use Rattle.pair_text.proofs.Answered.{small_target, source_answer, target_answer}
use Rattle.pair_text.proofs.input.texts.Goals as goal

pub returns-in-Err-clause-answer : goal.returns-in-Err-clause-answer
returns-in-Err-clause-answer c = source_answer c.args.source_text.now c.args.target_text.now c.in-Err.fault c.in-Err.ensures.refused

pub returns-in-Err-parse-clause-answer : goal.returns-in-Err-parse-clause-answer
returns-in-Err-parse-clause-answer c =
    target_answer c.args.source_text.now c.args.target_text.now c.in-Ok.source c.in-Ok.ensures.ok c.in-Err-parse.fault c.target_fault.result c.in-Err-parse.ensures.refused c.target_fault.ensures

pub target_fault-requires-clause-small : goal.target_fault-requires-clause-small
target_fault-requires-clause-small c = small_target c.args.source_text.now c.args.target_text.now c.in-Err-parse.fault c.requires c.in-Err-parse.ensures.refused

pub target_fault-requires-clause-few : goal.target_fault-requires-clause-few
target_fault-requires-clause-few c = let small = c.requires in omega (arith, few_newlines c.args.source_text.now, small)
