use Rattle.std.proofs.Common.{subst}
use Rattle.std.proofs.lemmas.List.{drop_all}
use Rattle.flow_facts.proofs.TableLaws.{Lowest, best_step, best_end}
use Rattle.flow_facts.proofs.table.best_in.Goals as goal

pub loop-known-preserved : goal.loop-known-preserved
loop-known-preserved c =
    let s = best_step c.args.row.now c.args.x c.loop-known.known-index _ c.loop-known.best c.better-best.result c.loop-known-test.true c.better-best.ensures.one c.better-best.ensures.first c.better-best.ensures.second c.loop-known.invariant.found c.loop-known.invariant.lowest in
    record { found = s.0; lowest = s.1 }

pub returns : goal.returns
returns c =
    let row = c.args.row.now in
    best_end row c.args.x c.loop-known.best c.loop-known.invariant.found
    (subst (λ r. Lowest row r c.args.x c.loop-known.best) (drop_all c.loop-known.known-index row c.loop-known-test.false) c.loop-known.invariant.lowest)
