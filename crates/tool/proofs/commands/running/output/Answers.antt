use Rattle.std.proofs.Common.{sym, subst}
use Rattle.il_syntax.specs.declared.program.Program.{Program}
use Rattle.il_syntax.specs.WellFormed.{IsWellFormed}
use Rattle.view_machine.specs.Runs.{IsJournalRun}
use Rattle.reports.specs.Targets.{target_program}
use Rattle.reports.proofs.Callers.{complete_runs_are_few}
use Rattle.tool.specs.Run.{IsThreadedRun}
use Rattle.tool.proofs.ReportFacts.{chain_reported}
use Rattle.tool.proofs.Runs.{threads_are_run}
use Rattle.tool.proofs.commands.running.output.Goals as goal

pub journal-requires-clause-well_formed : goal.journal-requires-clause-well_formed
journal-requires-clause-well_formed g c κs lives = subst IsWellFormed (sym c.target.ensures) c.in_ok-chain.ensures.well_formed

pub told-requires-clause-run : goal.told-requires-clause-run
told-requires-clause-run g c = subst (λ (q : Program). IsJournalRun q c.in_ok-journal.journal) c.target.ensures c.in_ok-journal.ensures.run

pub told-requires-clause-few : goal.told-requires-clause-few
told-requires-clause-few g c =
    let run = subst (λ (q : Program). IsJournalRun q c.in_ok-journal.journal) c.target.ensures c.in_ok-journal.ensures.run in
    let own = subst (λ (q : Program). IsThreadedRun c.args.seed c.args.steps q c.in_ok-journal.journal) c.target.ensures c.in_ok-journal.ensures.own in
    complete_runs_are_few (target_program c.in_ok-chain.chain) c.in_ok-journal.journal c.args.steps c.requires.few run own.complete

pub returns : goal.returns
returns g c =
    let run = subst (λ (q : Program). IsJournalRun q c.in_ok-journal.journal) c.target.ensures c.in_ok-journal.ensures.run in
    let own = subst (λ (q : Program). IsThreadedRun c.args.seed c.args.steps q c.in_ok-journal.journal) c.target.ensures c.in_ok-journal.ensures.own in
    chain_reported (IsThreadedRun c.args.seed c.args.steps) c.args.steps c.args.input.now c.in-Ok.p c.in_ok-chain.chain c.in_ok-journal.journal c.told.result
    c.in-Ok.ensures.ok c.in_ok-chain.ensures (threads_are_run c.args.seed c.args.steps (target_program c.in_ok-chain.chain) c.in_ok-journal.journal run own) c.told.ensures
