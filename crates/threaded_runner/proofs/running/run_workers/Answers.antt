use Rattle.std.proofs.Common.{subst}
use Rattle.threaded_runner.specs.declared.worker.Worker.{Worker}
use Rattle.threaded_runner.specs.Workers.{HasWorked}
use Rattle.threaded_runner.proofs.Rows.{each_of}
use Rattle.threaded_runner.proofs.running.run_workers.Goals as goal

pub returns : goal.returns
returns g c = record {
  worked = each_of (HasWorked c.args.p.now c.args.shared.now c.args.seed c.args.steps) _ _ c.for_each_mut.auto.s (λ k d lt.
      let e = (c.for_each_mut.ensures k d lt).1 in
      subst (λ (x : Worker g.row.M.Denot × Worker g.row.M.Denot). HasWorked c.args.p.now c.args.shared.now c.args.seed c.args.steps x.0 x.1) (λ j. (e.argument_is j, e.left j)) e.call);
}
