use Rattle.std.proofs.Common.{◌≡◌, ◌++◌, take}
use Rattle.litmus_text.specs.Output.{are_met, verdict_lines}
use Rattle.outcomes_session.specs.Judging.{is_met_by}
use Rattle.outcomes_session.proofs.judging.push_judged.Given as goal

abbrev pub invariant-loop-expectation : goal.invariant-loop-expectation
invariant-loop-expectation l = record {
  written : l.out.items ≡ l.initial.out.items ++ verdict_lines (is_met_by l.p l.list) (take l.expectation-index l.expectations);
  met : l.all ≡ are_met (is_met_by l.p l.list) (take l.expectation-index l.expectations);
}
