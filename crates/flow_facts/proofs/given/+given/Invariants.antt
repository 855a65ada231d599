use Rattle.std.proofs.Common.{◌≡◌, ◌++◌, drop}
use Rattle.il_paths.specs.Tree.{tree_of, tree_of_all}
use Rattle.flow_facts.specs.Rounds.{given_of}
use Rattle.flow_facts.proofs.given.+given.Given as goal

abbrev pub invariant-list_given-loop-statement : goal.invariant-list_given-loop-statement
invariant-list_given-loop-statement l =
    l.given ++ given_of (tree_of_all (drop l.statement-index l.statement-items)) ≡ l.fn.given ++ given_of (tree_of l.block)
