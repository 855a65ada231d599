use Rattle.std.proofs.Common.{◌≡◌, take}
use Rattle.std.specs.List.{flat_map}
use Rattle.outcomes_session.specs.Output.{found_text}
use Rattle.outcomes_session.specs.Session.{told_outcomes}
use Rattle.outcomes_session.proofs.telling.write_all.Given as goal

abbrev pub invariant-loop-found : goal.invariant-loop-found
invariant-loop-found l = record {
  text : l.text.items ≡ flat_map (found_text l.p) (take l.found-index l.list);
  outcomes : l.outcomes.items ≡ told_outcomes l.p (take l.found-index l.list);
}
