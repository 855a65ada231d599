use Rattle.seq_text.proofs.EventWords.{no_text}
use Rattle.seq_text.proofs.event.event_of_line.Goals as goal

pub returns-in-Err : goal.returns-in-Err
returns-in-Err c = let cases = c.in-Err.ensures.cases in no_text c.args.p.now c.args.line.now c.requires.names cases.0
