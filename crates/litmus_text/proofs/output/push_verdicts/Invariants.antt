use Rattle.std.proofs.Common.{◌≡◌, ◌++◌, take}
use Rattle.litmus_text.specs.Output.{are_met, is_met, verdict_lines}
use Rattle.litmus_text.proofs.output.push_verdicts.Given as goal

abbrev pub invariant-loop-expectation : goal.invariant-loop-expectation
invariant-loop-expectation l = record {
  written : l.out.items ≡ l.initial.out.items ++ verdict_lines (is_met l.outcomes) (take l.expectation-index l.expectations);
  met : l.all ≡ are_met (is_met l.outcomes) (take l.expectation-index l.expectations);
}
