use Rattle.seq_text.proofs.Answered.{programs_refused}
use Rattle.seq_text.proofs.input.texts.Goals as goal

pub returns-in-Err-clause-answer : goal.returns-in-Err-clause-answer
returns-in-Err-clause-answer c = λ input divided.
    programs_refused input c.session_fault.result c.args.source_text.now c.args.target_text.now c.args.events_text.now divided c.in-Err.fault c.in-Err.ensures.refused c.session_fault.ensures
