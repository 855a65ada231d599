use Rattle.std.proofs.Common.{sym, subst}
use Rattle.il_paths.specs.Tree.{tree_of}
use Rattle.flow_facts.specs.Rows.{IsTable}
use Rattle.flow_summary.proofs.summed.SummedFacts.before.Goals as goal

pub returns : goal.returns
returns c = subst (IsTable (tree_of c.args.f.now.body) c.args.kind) (sym c.new.ensures) c.in_ok-rows_before.ensures
