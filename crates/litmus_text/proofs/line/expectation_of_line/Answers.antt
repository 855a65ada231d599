use Rattle.litmus_text.specs.Expectation.{named_locations}
use Rattle.litmus_text.proofs.ExpectationWords.{no_text}
use Rattle.litmus_text.proofs.Names.{are_named}
use Rattle.litmus_text.proofs.line.expectation_of_line.Goals as goal

pub returns-in-Err : goal.returns-in-Err
returns-in-Err c = let cases = c.in-Err.ensures.cases in no_text (named_locations c.args.finals c.args.p.now) (are_named c.args.p.now c.requires c.args.finals) c.args.line.now cases.0
