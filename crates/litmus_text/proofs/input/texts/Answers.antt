use Rattle.litmus_text.proofs.Answered.{program_refused}
use Rattle.litmus_text.proofs.input.texts.Goals as goal

pub returns-in-Err-clause-answer : goal.returns-in-Err-clause-answer
returns-in-Err-clause-answer c = λ input divided.
    program_refused c.args.finals input c.input_fault.result c.args.program_text.now c.args.expectations_text.now divided c.in-Err.fault c.in-Err.ensures.refused c.input_fault.ensures
