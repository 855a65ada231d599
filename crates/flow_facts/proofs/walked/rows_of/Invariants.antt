use Rattle.std.proofs.Common.{◌≡◌, ℕ, ◌<◌, length}
use Rattle.il_syntax.specs.declared.statement.Atom.{Atom}
use Rattle.flow_facts.specs.Rows.{level_at}
use Rattle.flow_facts.specs.Columns.{level_by_columns}
use Rattle.flow_facts.proofs.walked.rows_of.Given as goal

abbrev pub invariant-loop-site : goal.invariant-loop-site
invariant-loop-site l = record {
  long : length l.rows ≡ l.site;
  levels : (site x : ℕ) (a : Atom) → site < length l.rows → level_at l.rows site x a ≡ level_by_columns l.columns site x a;
}
