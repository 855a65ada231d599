use Rattle.std.proofs.Common.{◌≡◌, length, arith}
use Rattle.litmus_text.specs.Expectation.{named_locations}
use Rattle.litmus_text.proofs.ExpectationSteps.{none_decoded}
use Rattle.litmus_text.proofs.Names.{are_named}
use Rattle.litmus_text.proofs.expectations.read_expectations.Goals as goal

pub returns-in-None : goal.returns-in-None
returns-in-None c =
    let count : c.len-lines.result ≡ length c.lines.expectations.items = omega (arith, c.len-lines.ensures, c.lines.expectations.ok.0) in
    none_decoded (named_locations c.args.finals c.args.p.now) c.args.text.now c.lines.expectations.items c.lines.rest.now c.in-Some.line.now c.in-Some.after.now c.lines.invariant c.in-Some.ensures
    (are_named c.args.p.now c.requires c.args.finals) c.in_ok-expectation.expectation c.in-None.is c.in_ok-expectation.ensures c.len-lines.result count
