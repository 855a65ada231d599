-- What the commands that walk write for an input tells one run.
use Rattle.std.proofs.Common.{◌≡◌, ◌∙◌, ℕ, List, length, inl, inr, sym, subst}
use Rattle.values_undef.specs.Journal.{ending_in}
use Rattle.values_undef.specs.declared.journal.Entry.{Entry}
use Rattle.il_syntax.specs.declared.program.Program.{Program}
use Rattle.il_parser.proofs.Callers.{one_program, spelled_unrefused}
use Rattle.reports.specs.Targets.{IsOptimised, IsTidiedTarget}
use Rattle.reports.specs.Runs.{run_report}
use Rattle.reports.proofs.Callers.{targets_are_one}
use Rattle.words.specs.declared.command.Drawing.{Drawing}
use Rattle.tool.specs.declared.status.Status.{Status}
use Rattle.tool.specs.Statuses.{status_of}
use Rattle.tool.specs.Headline.{IsReport, IsReportOutput}
use Rattle.tool.specs.Walk.{IsWalkOf}
use Rattle.tool.specs.Laws.{TellOneRun, HasOneRun, WalksTellOneRun, TidiesTellOneRun}
use Rattle.tool.proofs.OneOutput.{text_refused_once}
use Rattle.tool.proofs.PickedWalks.{one_walk}

module _ (IsTarget : Program → Program → Type 0) (once : (p one other : Program) → IsTarget p one → IsTarget p other → one ≡ other) (order : List ℕ) (draws : Drawing) (steps : ℕ) where
  told_once : (bytes one other : List ℕ) (s t : Status) → IsReport IsTarget (IsWalkOf order draws steps) steps bytes one s → IsReport IsTarget (IsWalkOf order draws steps) steps bytes other t
      → TellOneRun one other × (s ≡ t)
  told_once bytes one other s t x y =
      let given = one_program bytes x.run.given y.run.given x.spelled y.spelled in
      let target = once x.run.given x.run.target y.run.target x.target (subst (λ (p : Program). IsTarget p y.run.target) (sym given) y.target) in
      let journal = one_walk order draws steps x.run.target x.run.journal y.run.journal x.own (subst (λ (p : Program). IsWalkOf order draws steps p y.run.journal) (sym target) y.own) in (
        inr (record {
          run = x.run;
          source = y.run.source;
          one_is = x.written;
          other_is = y.written ∙ sym (λ i. run_report (record { given = x.run.given; target = target i; journal = journal i; source = y.run.source }));
        }),
        x.status ∙ (λ i. status_of (ending_in (journal i) (length (target i).threads))) ∙ sym y.status,
      )

  one_run : HasOneRun (IsReportOutput IsTarget (IsWalkOf order draws steps) steps)
  one_run bytes one other s t (inl x) (inl y) = told_once bytes one other s t x y
  one_run bytes one other s t (inl x) (inr y) = absurd (spelled_unrefused bytes x.run.given y.refusal x.spelled y.first)
  one_run bytes one other s t (inr x) (inl y) = absurd (spelled_unrefused bytes y.run.given x.refusal y.spelled x.first)
  one_run bytes one other s t (inr x) (inr y) = let same = text_refused_once bytes one other s t x y in (inl same.0, same.1)

pub walks_tell_one_run : WalksTellOneRun
walks_tell_one_run order draws steps = one_run IsOptimised (λ p one other. (targets_are_one p one other).0) order draws steps

pub tidies_tell_one_run : TidiesTellOneRun
tidies_tell_one_run order draws steps = one_run IsTidiedTarget (λ p one other. (targets_are_one p one other).1) order draws steps
