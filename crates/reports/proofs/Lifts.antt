-- The source journal of a report, which is none where the journal is its own lift.
use Rattle.std.proofs.Common.{◌≡◌, ◌∙◌, Bor, ℕ, List, Option, Some, None, length, ap}
use Rattle.std.specs.Option.{option_copied, option_map_or}
use Rattle.values_undef.specs.declared.journal.Entry.{Entry}
use Rattle.values_undef.specs.declared.journal.Ending.{Ending}
use Rattle.il_syntax.specs.declared.program.Program.{Program}
use Rattle.values_undef.specs.Journal.{ending_in}
use Rattle.journal_text.specs.Report.{report_text}
use Rattle.simulation.specs.Chain.{lift_or}
use Rattle.simulation.specs.Conditions.{IsLifted}
use Rattle.reports.specs.Runs.{IsWritten, IsReported}

lift_shown : (journal : List Entry) (lift : Option (List Entry)) (shown : Option (Bor (List Entry))) → option_copied shown ≡ lift → option_map_or (λ source. source.now) shown journal ≡ lift_or journal lift
lift_shown journal lift (Some source) e = ap (lift_or journal) e
lift_shown journal lift None e = ap (lift_or journal) e

-- what was written with what was lifted is reported
pub lift_reported : (given target ran : Program) (journal : List Entry) (lift : Option (List Entry)) (shown : Option (Bor (List Entry))) (out : List ℕ) (ending : Ending)
    → ran ≡ target → IsLifted given target journal (lift_or journal lift) → option_copied shown ≡ lift → IsWritten ran journal (option_map_or (λ source. source.now) shown journal) out ending
    → IsReported given target journal out ending
lift_reported given target ran journal lift shown out ending same lifted is written = record {
  source = lift_or journal lift;
  lifted = lifted;
  told = record {
    text = written.text ∙ (λ i. report_text (same i) journal (lift_shown journal lift shown is i) (length (same i).threads));
    ends = written.ends ∙ (λ i. ending_in journal (length (same i).threads));
  };
}
