use Rattle.std.proofs.Common.{◌≡◌, drop}
use Rattle.std.specs.List.{list_any}
use Rattle.il_syntax.specs.Statements.{heads_of_all}
use Rattle.load_hoist.specs.Introduced.{forbids}
use Rattle.load_hoist.proofs.wanted.+forbids.Given as goal

abbrev pub invariant-some_forbids-loop-statement : goal.invariant-some_forbids-loop-statement
invariant-some_forbids-loop-statement l =
    list_any (forbids l.x) (heads_of_all (drop l.statement-index l.statements)) ≡ list_any (forbids l.x) (heads_of_all l.fn.statements)
