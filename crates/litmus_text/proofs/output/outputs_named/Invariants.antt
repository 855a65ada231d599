use Rattle.std.proofs.Common.{◌≡◌, take}
use Rattle.litmus_text.specs.Output.{outputs_named}
use Rattle.litmus_text.proofs.output.outputs_named.Given as goal

abbrev pub invariant-loop-word : goal.invariant-loop-word
invariant-loop-word l = l.out.items ≡ outputs_named (take l.word-index l.words)
