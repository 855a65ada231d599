use Rattle.reports.proofs.Callers.{complete_runs_are_few}
use Rattle.tool.specs.Walk.{IsWalkOf}
use Rattle.tool.proofs.ReportFacts.{tidied_reported}
use Rattle.tool.proofs.Runs.{walk_is_run}
use Rattle.tool.proofs.commands.tidying.output.Goals as goal

pub walked-requires-clause-well_formed : goal.walked-requires-clause-well_formed
walked-requires-clause-well_formed g c = c.in_ok-tidied.ensures.accepted.target_well_formed

pub told_tidied-requires-clause-run : goal.told_tidied-requires-clause-run
told_tidied-requires-clause-run g c = c.in_ok-walk.ensures.walk.run

pub told_tidied-requires-clause-few : goal.told_tidied-requires-clause-few
told_tidied-requires-clause-few g c =
    complete_runs_are_few c.in_ok-tidied.tidied c.in_ok-walk.walk.journal c.args.steps c.requires.few c.in_ok-walk.ensures.walk.run c.in_ok-walk.ensures.walk.complete

pub returns : goal.returns
returns g c =
    tidied_reported (IsWalkOf c.args.order.now c.args.draws.now c.args.steps) c.args.steps c.args.input.now c.in-Ok.p c.in_ok-chain.chain c.in_ok-tidied.tidied c.in_ok-walk.walk.journal c.told_tidied.result
    c.in-Ok.ensures.ok c.in_ok-chain.ensures c.in_ok-tidied.ensures
    (walk_is_run c.args.order.now c.args.draws.now c.args.steps c.in_ok-tidied.tidied c.in_ok-walk.walk.journal c.in_ok-walk.ensures.walk) c.told_tidied.ensures
