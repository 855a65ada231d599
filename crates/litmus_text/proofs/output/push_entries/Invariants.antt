use Rattle.std.proofs.Common.{◌≡◌, ◌++◌, take}
use Rattle.journal_text.specs.Report.{entry_lines}
use Rattle.litmus_text.proofs.output.push_entries.Given as goal

abbrev pub invariant-loop-entry : goal.invariant-loop-entry
invariant-loop-entry l = l.out.items ≡ l.initial.out.items ++ entry_lines l.p (take l.entry-index l.entries)
