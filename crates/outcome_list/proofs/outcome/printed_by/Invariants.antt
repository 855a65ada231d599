use Rattle.std.proofs.Common.{◌≡◌, ◌++◌, drop}
use Rattle.outcome_nodes.specs.Nodes.{printed_by}
use Rattle.outcome_list.proofs.outcome.printed_by.Given as goal

abbrev pub invariant-loop-entry : goal.invariant-loop-entry
invariant-loop-entry l = l.out.items ++ printed_by (drop l.entry-index l.entries) l.thread ≡ printed_by l.entries l.thread
