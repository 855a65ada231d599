use Rattle.std.proofs.Common.{◌≡◌, ◌++◌, take}
use Rattle.litmus_text.specs.Output.{printed_lines}
use Rattle.litmus_text.proofs.output.push_outputs.Given as goal

abbrev pub invariant-loop-output : goal.invariant-loop-output
invariant-loop-output l = l.out.items ≡ l.initial.out.items ++ printed_lines (take l.output-index l.outputs)
