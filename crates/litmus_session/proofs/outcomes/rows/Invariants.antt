use Rattle.std.proofs.Common.{◌≡◌, map, take}
use Rattle.reports.specs.Targets.{target_program}
use Rattle.litmus_session.specs.Session.{AreRowsText, outcome_of_row}
use Rattle.litmus_session.proofs.outcomes.rows.Given as goal

abbrev pub invariant-loop-sample : goal.invariant-loop-sample
invariant-loop-sample g l = record {
  text : AreRowsText l.chain.source (target_program l.chain) (take l.sample-index l.samples) l.text.items;
  outcomes : l.outcomes.items ≡ map (outcome_of_row (target_program l.chain)) (take l.sample-index l.samples);
}
