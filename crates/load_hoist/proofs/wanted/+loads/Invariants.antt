use Rattle.std.proofs.Common.{◌≡◌, drop}
use Rattle.std.specs.List.{list_any}
use Rattle.il_syntax.specs.Statements.{heads_of_all}
use Rattle.load_hoist.specs.Introduced.{loads}
use Rattle.load_hoist.proofs.wanted.+loads.Given as goal

abbrev pub invariant-some_loads-loop-statement : goal.invariant-some_loads-loop-statement
invariant-some_loads-loop-statement l =
    list_any (loads l.x) (heads_of_all (drop l.statement-index l.statements)) ≡ list_any (loads l.x) (heads_of_all l.fn.statements)
