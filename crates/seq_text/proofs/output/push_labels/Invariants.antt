use Rattle.std.proofs.Common.{◌≡◌, ◌++◌, take}
use Rattle.seq_text.specs.Output.{label_lines}
use Rattle.seq_text.proofs.output.push_labels.Given as goal

abbrev pub invariant-loop-label : goal.invariant-loop-label
invariant-loop-label l = l.out.items ≡ l.initial.out.items ++ label_lines l.p (take l.label-index l.labels)
