use Rattle.std.proofs.Common.{◌≡◌, take}
use Rattle.std.specs.List.{list_any}
use Rattle.outcomes_session.specs.Judging.{is_as_expected}
use Rattle.outcomes_session.proofs.judging.is_found.Given as goal

abbrev pub invariant-loop-i : goal.invariant-loop-i
invariant-loop-i l = l.there ≡ list_any (is_as_expected l.p l.e) (take l.i l.list)
