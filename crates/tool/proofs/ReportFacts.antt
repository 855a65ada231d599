-- What is known of each command that writes the report of a run.
use Rattle.std.proofs.Common.{◌≡◌, ◌⊎◌, ℕ, ◌≤◌, Bool, true, List, length, Result, Ok, Err, IfOk, inl, inr, refl, sym, ap, subst, ◌∙◌}
use Rattle.values_undef.specs.Journal.{ending_in}
use Rattle.values_undef.specs.declared.journal.Entry.{Entry}
use Rattle.values_undef.specs.declared.journal.Ending.{Ending}
use Rattle.values_undef.specs.declared.journal.Ending.TheVariants as ending
use Rattle.il_syntax.specs.declared.program.Program.{Program}
use Rattle.il_syntax.specs.WellFormed.{IsWellFormed}
use Rattle.il_parser.specs.Text.{SpellsProgram}
use Rattle.il_parser.proofs.Callers.{spelled_unrefused, spelled_well_formed}
use Rattle.view_machine.specs.Runs.{IsJournalRun}
use Rattle.run_choices.specs.Complete.{IsComplete}
use Rattle.walk_limits.specs.Walks.{EntriesTakeCandidates}
use Rattle.pass_chain.specs.declared.chains.ProgramChain.{ProgramChain}
use Rattle.reports.specs.Targets.{IsChainOf, IsOptimised, IsTidiedOf, IsTidiedTarget, target_program}
use Rattle.reports.specs.Runs.{IsReported}
use Rattle.reports.specs.declared.report.Report.{Report}
use Rattle.reports.proofs.Callers.{reported_of_given}
use Rattle.tool.specs.declared.answer.Output.{Output}
use Rattle.tool.specs.declared.status.Status.{Status}
use Rattle.tool.specs.declared.status.Status.TheVariants as status
use Rattle.tool.specs.Statuses.{status_of}
use Rattle.tool.specs.Refusals.{IsTextRefusal, HasTextRefusal}
use Rattle.tool.specs.Headline.{IsReport, IsReportOutput, IsRunStatus, IsToldRun, TellsRun, report_meaning}
use Rattle.tool.specs.Outputs.{IsRefusalStatus}
use Rattle.tool.proofs.CommandFacts.{IsOutputStatus, CommandFacts}

of_ending : (e : Ending) → IsOutputStatus (status_of e)
of_ending ending.Done = tt
of_ending ending.Failed = tt
of_ending ending.Spent = tt

by_ending : (e : Ending) (s : Status) → s ≡ status_of e → IsRunStatus s
by_ending ending.Done s is = inl is
by_ending ending.Failed s is = inr (inl is)
by_ending ending.Spent s is = inr (inr (inl is))

module _ (waits : Bool) (IsTarget : Program → Program → Type 0) (IsOwn : Program → List Entry → Type 0) (steps : ℕ) where
  outputs : (bytes out : List ℕ) (s : Status) → IsReportOutput IsTarget IsOwn steps bytes out s → IsOutputStatus s
  outputs bytes out s (inl x) = subst IsOutputStatus (sym x.status) (of_ending _)
  outputs bytes out s (inr x) = subst IsOutputStatus (sym x.status) tt

  works : (bytes out : List ℕ) (s : Status) → IsReportOutput IsTarget IsOwn steps bytes out s → (p : Program) × SpellsProgram bytes p → IsRunStatus s
  works bytes out s (inl x) input = by_ending _ s x.status
  works bytes out s (inr x) input = absurd (spelled_unrefused bytes input.0 x.refusal input.1 x.first)

  refuses : (bytes out : List ℕ) (s : Status) → IsReportOutput IsTarget IsOwn steps bytes out s → HasTextRefusal bytes → IsRefusalStatus s
  refuses bytes out s (inl x) input = absurd (spelled_unrefused bytes x.run.given input.0 x.spelled input.1)
  refuses bytes out s (inr x) input = inl x.status

  tells : (bytes out : List ℕ) (s : Status) → true ≡ true → (1 ≤ steps) × (steps ≤ 16384) → IsReportOutput IsTarget IsOwn steps bytes out s → TellsRun bytes out s ⊎ IsTextRefusal bytes out s
  tells bytes out s is budget (inl x) = inl (record {
    steps = steps;
    few = budget.1;
    run = x.run;
    spelled = x.spelled;
    reported = x.reported;
    written = x.written;
    status = x.status;
  })
  tells bytes out s is budget (inr x) = inr x

  pub report_facts : CommandFacts (report_meaning waits IsTarget IsOwn steps)
  report_facts = record { outputs = outputs; works = works; refuses = refuses; no_memory = inr (inr (inr refl)); tells = tells }

-- ---- an output of such a command

-- what was reported of a lift, with the status of the report's ending
pub is_told : (given target : Program) (journal : List Entry) (report : Report) (o : Output) → IsReported given target journal report.bytes.items report.ending → o.bytes.items ≡ report.bytes.items
    → o.status ≡ status_of report.ending → IsToldRun given target journal o.bytes.items o.status
is_told given target journal report o reported bytes status =
    record { ending = report.ending; reported = subst (λ (out : List ℕ). IsReported given target journal out report.ending) (sym bytes) reported; status = status }

-- what is known of a run of a target, whoever made it
pub record IsRun (IsOwn : Program → List Entry → Type 0) (steps : ℕ) (target : Program) (journal : List Entry) : Type 0 where
  pub run : IsJournalRun target journal
  pub complete : IsComplete target journal steps
  pub candidates : EntriesTakeCandidates target journal
  pub own : IsOwn target journal

module _ (IsTarget : Program → Program → Type 0) (IsOwn : Program → List Entry → Type 0) (steps : ℕ) (bytes : List ℕ) (p q : Program) (journal : List Entry) where
  -- what was told of a run of a program that is lifted to the given one is the report of it
  pub report_of : (out : List ℕ) (s : Status) → SpellsProgram bytes p → IsTarget p q → IsWellFormed q → q.threads ≡ p.threads → IsRun IsOwn steps q journal → IsToldRun p q journal out s
      → IsReport IsTarget IsOwn steps bytes out s
  report_of out s spelled target formed threads run told = record {
    run = record { given = p; target = q; journal = journal; source = told.reported.source };
    spelled = spelled;
    target = target;
    reported = record {
      given_well_formed = spelled_well_formed bytes p spelled;
      target_well_formed = formed;
      threads = threads;
      run = run.run;
      complete = run.complete;
      candidates = run.candidates;
      lifted = told.reported.lifted;
    };
    own = run.own;
    written = told.reported.told.text;
    status = told.status ∙ ap status_of told.reported.told.ends;
  }

-- and where the program is the last of a chain
pub chain_report : (IsOwn : Program → List Entry → Type 0) (steps : ℕ) (bytes : List ℕ) (p : Program) (c : ProgramChain) (journal : List Entry) (out : List ℕ) (s : Status)
    → SpellsProgram bytes p → IsChainOf p c → IsRun IsOwn steps (target_program c) journal → IsToldRun c.source (target_program c) journal out s → IsReport IsOptimised IsOwn steps bytes out s
chain_report IsOwn steps bytes p c journal out s spelled is run told =
    report_of IsOptimised IsOwn steps bytes p (target_program c) journal out s spelled (record { chain = c; made = is.made; last = refl }) is.well_formed is.threads run
    (record { ending = told.ending; reported = reported_of_given p c (target_program c) journal out told.ending is told.reported; status = told.status })

-- or what that is tidied to
tidied_report : (IsOwn : Program → List Entry → Type 0) (steps : ℕ) (bytes : List ℕ) (p : Program) (c : ProgramChain) (q : Program) (journal : List Entry) (out : List ℕ) (s : Status)
    → SpellsProgram bytes p → IsChainOf p c → IsTidiedOf c q → IsRun IsOwn steps q journal → IsToldRun c.source q journal out s → IsReport IsTidiedTarget IsOwn steps bytes out s
tidied_report IsOwn steps bytes p c q journal out s spelled is tidied run told =
    report_of IsTidiedTarget IsOwn steps bytes p q journal out s spelled
    (record { optimised = target_program c; made = record { chain = c; made = is.made; last = refl }; tidied = tidied.made })
    tidied.accepted.target_well_formed (tidied.accepted.threads ∙ is.threads) run
    (record { ending = told.ending; reported = reported_of_given p c q journal out told.ending is told.reported; status = told.status })

pub chain_reported : {E : Type 0} (IsOwn : Program → List Entry → Type 0) (steps : ℕ) (bytes : List ℕ) (p : Program) (c : ProgramChain) (journal : List Entry) (r : Result Output E)
    → SpellsProgram bytes p → IsChainOf p c → IsRun IsOwn steps (target_program c) journal → IfOk r (λ o. IsToldRun c.source (target_program c) journal o.bytes.items o.status)
    → IfOk r (λ o. IsReportOutput IsOptimised IsOwn steps bytes o.bytes.items o.status)
chain_reported IsOwn steps bytes p c journal (Ok o) spelled is run told = inl (chain_report IsOwn steps bytes p c journal o.bytes.items o.status spelled is run told)
chain_reported IsOwn steps bytes p c journal (Err e) spelled is run told = tt

pub tidied_reported : {E : Type 0} (IsOwn : Program → List Entry → Type 0) (steps : ℕ) (bytes : List ℕ) (p : Program) (c : ProgramChain) (q : Program) (journal : List Entry) (r : Result Output E)
    → SpellsProgram bytes p → IsChainOf p c → IsTidiedOf c q → IsRun IsOwn steps q journal → IfOk r (λ o. IsToldRun c.source q journal o.bytes.items o.status)
    → IfOk r (λ o. IsReportOutput IsTidiedTarget IsOwn steps bytes o.bytes.items o.status)
tidied_reported IsOwn steps bytes p c q journal (Ok o) spelled is tidied run told = inl (tidied_report IsOwn steps bytes p c q journal o.bytes.items o.status spelled is tidied run told)
tidied_reported IsOwn steps bytes p c q journal (Err e) spelled is tidied run told = tt
