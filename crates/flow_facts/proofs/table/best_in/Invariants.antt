use Rattle.std.proofs.Common.{drop}
use Rattle.flow_facts.proofs.TableLaws.{Found, Lowest}
use Rattle.flow_facts.proofs.table.best_in.Given as goal

abbrev pub invariant-loop-known : goal.invariant-loop-known
invariant-loop-known l = record {
  found : Found l.row l.x l.best;
  lowest : Lowest l.row (drop l.known-index l.row) l.x l.best;
}
