use Rattle.std.proofs.Common.{◌∙◌, List, sym, subst}
use Rattle.std.specs.List.{All}
use Rattle.il_syntax.specs.WellFormed.{IsWellFormed}
use Rattle.view_machine.specs.Runs.{IsJournalRun}
use Rattle.refinement.specs.Playings.{AreFew}
use Rattle.reports.specs.Targets.{target_program}
use Rattle.litmus.specs.declared.table.Sample.{Sample}
use Rattle.litmus_session.proofs.Judged.{rows_few, rows_runs}
use Rattle.litmus_session.proofs.judging.judged.Goals as goal

pub litmus-requires-clause-well_formed : goal.litmus-requires-clause-well_formed
litmus-requires-clause-well_formed g c κs h = subst IsWellFormed (sym c.target.ensures) c.in_ok-chain.ensures.well_formed

pub rows-requires-clause-runs : goal.rows-requires-clause-runs
rows-requires-clause-runs g c κs h =
    subst (λ (xs : List Sample). All (λ (s : Sample). IsJournalRun (target_program c.in_ok-chain.chain) s.journal) xs) (sym (c.as_slice.ensures.value ∙ c.samples.view_is))
    (rows_runs c.target.result.now (target_program c.in_ok-chain.chain) c.args.seed c.args.seeds c.args.steps c.in_ok-samples.samples c.target.ensures c.in_ok-samples.ensures.runs)

pub rows-requires-clause-few : goal.rows-requires-clause-few
rows-requires-clause-few g c κs h =
    subst (λ (xs : List Sample). All (λ (s : Sample). AreFew s.journal) xs) (sym (c.as_slice.ensures.value ∙ c.samples.view_is))
    (rows_few c.target.result.now c.args.seed c.args.seeds c.args.steps c.in_ok-samples.samples c.requires.condition.few_steps c.in_ok-samples.ensures.runs)
