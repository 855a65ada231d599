use Rattle.std.proofs.Common.{List, map, subst}
use Rattle.std.specs.List.{Contains}
use Rattle.outcome_list.specs.declared.found.Found.{Found}
use Rattle.outcome_list.specs.List.{found_outcome, IsPlaceFor}
use Rattle.outcome_list.proofs.Placing.{run_put, run_there}
use Rattle.outcome_list.proofs.list.add_run.Goals as goal

pub returns-in_ok-insert : goal.returns-in_ok-insert
returns-in_ok-insert c =
    let f : Found = record { outcome = c.in_ok-outcome.outcome; journal = c.in_ok-journal.journal } in
    let at = subst (λ (list : List Found). IsPlaceFor (map found_outcome list) (found_outcome f) c.in-Err.place) c.as_slice.ensures.value c.in-Err.ensures.place in
    run_put c.args.p.now c.args.run.now c.args.list.now.items c.insert.new.self.items c.in-Err.place f c.requires.rising c.in_ok-outcome.ensures c.in_ok-journal.ensures at c.in_ok-insert.ensures.items

pub returns-in_default : goal.returns-in_default
returns-in_default c =
    let there = subst (λ (list : List Found). Contains (map found_outcome list) c.in_ok-outcome.outcome) c.as_slice.ensures.value c.in_default.ensures.found in
    run_there c.args.p.now c.args.run.now c.args.list.now.items c.in_ok-outcome.outcome c.requires.rising c.in_ok-outcome.ensures there
