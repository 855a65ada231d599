-- A report reads as its run, and the source journal as one of the program that was given.
use Rattle.std.proofs.Common.{◌≡◌, ℕ, ◌<◌, ◌≤◌, List, length, ap, arith}
use Rattle.std.specs.List.{All}
use Rattle.std.proofs.lemmas.List.Elements.{All-from_recursion, recursion_from_All}
use Rattle.values_undef.specs.Journal.{used_steps}
use Rattle.values_undef.specs.declared.journal.Entry.{Entry}
use Rattle.il_syntax.specs.declared.program.Start.{Start}
use Rattle.journal_text.specs.Limits.{FitsEntry}
use Rattle.replay_text.proofs.Callers.{report_read}
use Rattle.walk_limits.specs.Values.{HasEventValues}
use Rattle.walk_limits.proofs.Callers.{runs_few, runs_fit, runs_have_values}
use Rattle.reports.specs.Runs.{ReportedRun, IsReportedRun}
use Rattle.reports.specs.Laws.{ReportsReadBack, SourceJournalsReadBack}
use Rattle.reports.proofs.SourceFits.{source_fits}

fits : (steps : ℕ) (r : ReportedRun) → steps ≤ 16384 → IsReportedRun steps r → All (FitsEntry r.target) r.journal
fits steps r less is = runs_fit r.target r.journal steps is.target_well_formed less is.run is.complete is.candidates

pub reports_read_back : ReportsReadBack
reports_read_back steps r less is =
    let few = runs_few r.target r.journal steps is.target_well_formed less is.run is.complete in
    report_read r.target r.journal (length r.target.threads) is.target_well_formed (fits steps r less is) few r.source

pub source_journals_read_back : SourceJournalsReadBack
source_journals_read_back steps r other less is =
    let threads : length r.target.threads ≡ length r.given.threads = ap (λ (starts : List Start). length starts) is.threads in
    let used : (i : ℕ) → i < length r.given.threads → used_steps r.source i ≤ steps = λ i lt.
    omega (arith, is.lifted.refines.steps i, is.complete.within i (omega (arith, lt, threads))) in
    let source = source_fits r.given r.target steps r.journal r.source is.given_well_formed less (recursion_from_All (FitsEntry r.target) r.journal (fits steps r less is)) is.lifted.refines is.lifted.run used
    (recursion_from_All (λ (e : Entry). HasEventValues e.event) r.source (runs_have_values r.given r.source is.given_well_formed is.lifted.run)) in
    report_read r.given r.source (length r.given.threads) is.given_well_formed (All-from_recursion (FitsEntry r.given) r.source source.0) source.1 other
