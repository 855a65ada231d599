-- The runs of `walk` and of `run`.
use Rattle.std.proofs.Common.{ℕ, List}
use Rattle.values_undef.specs.declared.journal.Entry.{Entry}
use Rattle.il_syntax.specs.declared.program.Program.{Program}
use Rattle.view_machine.specs.Runs.{IsJournalRun}
use Rattle.walk_limits.specs.Walks.{EntriesTakeCandidates}
use Rattle.words.specs.declared.command.Drawing.{Drawing}
use Rattle.words.specs.declared.command.Drawing.TheVariants.{Seed, Picks}
use Rattle.tool.specs.Walk.{HasChoices, IsWalkOf}
use Rattle.tool.specs.Run.{IsThreadedRun}
use Rattle.tool.proofs.ReportFacts.{IsRun}

takes : (draws : Drawing) (p : Program) (entries : List Entry) → HasChoices draws p entries → EntriesTakeCandidates p entries
takes (Seed seed) p entries h = λ before e after parts atomic. (_, h before e after parts atomic)
takes (Picks list) p entries h = λ before e after parts atomic. (_, h before e after parts atomic)

pub walk_is_run : (order : List ℕ) (draws : Drawing) (steps : ℕ) (p : Program) (entries : List Entry) → IsWalkOf order draws steps p entries → IsRun (IsWalkOf order draws steps) steps p entries
walk_is_run order draws steps p entries w = record { run = w.run; complete = w.complete; candidates = takes draws p entries w.choices; own = w }

pub threads_are_run : (seed steps : ℕ) (p : Program) (entries : List Entry) → IsJournalRun p entries → IsThreadedRun seed steps p entries → IsRun (IsThreadedRun seed steps) steps p entries
threads_are_run seed steps p entries run w = record {
  run = run;
  complete = w.complete;
  candidates = λ before e after parts atomic. (_, w.drawn before e after parts atomic);
  own = w;
}
