use Rattle.std.proofs.Common.{◌≡◌, ℕ, drop}
use Rattle.il_syntax.specs.declared.statement.Atom.{Atom}
use Rattle.flow_facts.specs.Rows.{higher, level_in}
use Rattle.flow_facts.specs.Columns.{level_by_columns}
use Rattle.flow_facts.proofs.walked.row_of.Given as goal

abbrev pub invariant-loop-column : goal.invariant-loop-column
invariant-loop-column l = (x : ℕ) (a : Atom) → higher (level_in l.row x a) (level_by_columns (drop l.column-index l.columns) l.site x a) ≡ level_by_columns l.columns l.site x a
