use Rattle.std.proofs.Common.{◌≡◌, length, rules, arith, [], sym, subst}
use Rattle.std.proofs.lemmas.Result.{IfOk-weaker}
use Rattle.values_undef.specs.Journal.{ending_in}
use Rattle.il_syntax.specs.declared.program.Program.{Program}
use Rattle.il_syntax.specs.WellFormed.{IsWellFormed}
use Rattle.pass_chain.specs.Counts.{counts_of}
use Rattle.view_machine.specs.Runs.{IsJournalRun}
use Rattle.words.specs.declared.command.Drawing.TheVariants.{Seed}
use Rattle.reports.specs.Targets.{target_program}
use Rattle.reports.proofs.Callers.{complete_runs_are_few}
use Rattle.tool.specs.Walk.{IsWalkOf}
use Rattle.tool.proofs.GenLemmas.{chain_summary}
use Rattle.tool.proofs.commands.generating.chain_summary.Goals as goal

pub drawn-requires-clause-well_formed : goal.drawn-requires-clause-well_formed
drawn-requires-clause-well_formed c = subst IsWellFormed (sym c.target.ensures) c.requires.well_formed

pub lift_chain-requires-clause-run : goal.lift_chain-requires-clause-run
lift_chain-requires-clause-run c κs = subst (λ (q : Program). IsJournalRun q c.in_ok-walk.walk.journal) c.target.ensures c.in_ok-walk.ensures.walk.run

pub lift_chain-requires-clause-few : goal.lift_chain-requires-clause-few
lift_chain-requires-clause-few c κs =
    let walk = subst (λ (q : Program). IsWalkOf [] (Seed c.args.number) 1000 q c.in_ok-walk.walk.journal) c.target.ensures c.in_ok-walk.ensures.walk in
    complete_runs_are_few (target_program c.args.chain.now) c.in_ok-walk.walk.journal 1000 (omega arith) walk.run walk.complete

pub returns : goal.returns
returns c =
    let walk : IsWalkOf [] (Seed c.args.number) 1000 (target_program c.args.chain.now) c.in_ok-walk.walk.journal =
    subst (λ (q : Program). IsWalkOf [] (Seed c.args.number) 1000 q c.in_ok-walk.walk.journal) c.target.ensures c.in_ok-walk.ensures.walk in
    let counts : c.count.result ≡ counts_of c.args.chain.now = search rules in
    let entries : c.entries_of-entries.result ≡ length c.in_ok-walk.walk.journal = search rules in
    let ends : c.in_ok-walk.walk.ending ≡ ending_in c.in_ok-walk.walk.journal (length (target_program c.args.chain.now).threads) =
    subst (λ (q : Program). c.in_ok-walk.walk.ending ≡ ending_in c.in_ok-walk.walk.journal (length q.threads)) c.target.ensures c.in_ok-walk.ensures.ending in
    IfOk-weaker c.lines.result _ _ (λ bytes written. chain_summary c.args.number c.args.chain.now c.in_ok-walk.walk.journal _ _ _ _ bytes.items walk c.in_ok-lift_chain.ensures counts entries ends written) c.lines.ensures
