-- What the walk of some statements came to: for the contracts of the walk's code.
use Rattle.std.specs.Prelude.{Bool, true, false, List, length}
use Rattle.il_syntax.specs.declared.statement.Stmt.TheOpen.{If, While}
use Rattle.il_syntax.specs.Statements.{Head}
use Rattle.validator.specs.declared.walk.Part.{Part}
use Rattle.validator.specs.Walk.{Outcome, Apart, Together}

abbrev pub came_to : Bool → List Part → Outcome
came_to true done = Together done
came_to false done = Apart (length done)

abbrev pub is_loop : Head → Bool
is_loop (While a body) = true
is_loop _ = false

abbrev pub is_plain : Head → Bool
is_plain (If a yes_block no_block) = false
is_plain (While a body) = false
is_plain _ = true
