use Rattle.std.proofs.Common.{rules, arith}
use Rattle.litmus_text.specs.Expectation.{named_locations}
use Rattle.litmus_text.specs.Expectations.{AreExpectationsRefusedAfter}
use Rattle.litmus_text.proofs.Answered.{expectations_refused, refused_few}
use Rattle.litmus_text.proofs.input.with_expectations.Goals as goal

pub line_after-line-requires : goal.line_after-line-requires
line_after-line-requires c =
    let refused : AreExpectationsRefusedAfter (named_locations c.args.finals c.args.program) c.args.expectations_text.now c.in-Err-Refused.lines = search rules in
    omega (arith, refused_few (named_locations c.args.finals c.args.program) c.args.expectations_text.now c.in-Err-Refused.lines refused, c.requires.small)

pub returns-in-Err-Refused-clause-answer : goal.returns-in-Err-Refused-clause-answer
returns-in-Err-Refused-clause-answer c = λ input divided.
    let refused : AreExpectationsRefusedAfter (named_locations c.args.finals c.args.program) c.args.expectations_text.now c.in-Err-Refused.lines = search rules in
    expectations_refused c.args.finals input c.at_line.result c.args.program_text.now c.args.expectations_text.now divided c.args.program c.in-Err-Refused.lines _ c.requires.spelled refused c.line_after-line.ensures
    c.at_line.ensures
