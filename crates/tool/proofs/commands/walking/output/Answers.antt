use Rattle.std.proofs.Common.{sym, subst}
use Rattle.il_syntax.specs.declared.program.Program.{Program}
use Rattle.il_syntax.specs.WellFormed.{IsWellFormed}
use Rattle.reports.specs.Targets.{target_program}
use Rattle.reports.proofs.Callers.{complete_runs_are_few}
use Rattle.tool.specs.Walk.{IsWalkOf}
use Rattle.tool.proofs.ReportFacts.{chain_reported}
use Rattle.tool.proofs.Runs.{walk_is_run}
use Rattle.tool.proofs.commands.walking.output.Goals as goal

pub walked-requires-clause-well_formed : goal.walked-requires-clause-well_formed
walked-requires-clause-well_formed g c = subst IsWellFormed (sym c.target.ensures) c.in_ok-chain.ensures.well_formed

pub told-requires-clause-run : goal.told-requires-clause-run
told-requires-clause-run g c =
    let walk = subst (λ (q : Program). IsWalkOf c.args.order.now c.args.draws.now c.args.steps q c.in_ok-walk.walk.journal) c.target.ensures c.in_ok-walk.ensures.walk in
    walk.run

pub told-requires-clause-few : goal.told-requires-clause-few
told-requires-clause-few g c =
    let walk = subst (λ (q : Program). IsWalkOf c.args.order.now c.args.draws.now c.args.steps q c.in_ok-walk.walk.journal) c.target.ensures c.in_ok-walk.ensures.walk in
    complete_runs_are_few (target_program c.in_ok-chain.chain) c.in_ok-walk.walk.journal c.args.steps c.requires.few walk.run walk.complete

pub returns : goal.returns
returns g c =
    let walk = subst (λ (q : Program). IsWalkOf c.args.order.now c.args.draws.now c.args.steps q c.in_ok-walk.walk.journal) c.target.ensures c.in_ok-walk.ensures.walk in
    chain_reported (IsWalkOf c.args.order.now c.args.draws.now c.args.steps) c.args.steps c.args.input.now c.in-Ok.p c.in_ok-chain.chain c.in_ok-walk.walk.journal c.told.result
    c.in-Ok.ensures.ok c.in_ok-chain.ensures (walk_is_run c.args.order.now c.args.draws.now c.args.steps (target_program c.in_ok-chain.chain) c.in_ok-walk.walk.journal walk) c.told.ensures
