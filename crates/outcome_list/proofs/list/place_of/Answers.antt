use Rattle.std.proofs.Common.{rules}
use Rattle.std.proofs.lemmas.Fn.{always_returns_same}
use Rattle.outcome_list.specs.Order.{outcome_cmp}
use Rattle.outcome_list.specs.List.{found_outcome}
use Rattle.outcome_list.proofs.Placing.{place_told}
use Rattle.outcome_list.proofs.list.place_of.Goals as goal

pub returns-clause-found : goal.returns-clause-found
returns-clause-found c =
    let facts = c.binary_search_by.ensures in
    let told = facts.position (λ f. outcome_cmp (found_outcome f) c.args.outcome.now) (always_returns_same _ _ _ (λ a r g k. (k.met.1, search rules))) in
    (place_told c.args.list.now c.args.outcome.now c.binary_search_by.result c.requires facts.bound told).0

pub returns-clause-place : goal.returns-clause-place
returns-clause-place c =
    let facts = c.binary_search_by.ensures in
    let told = facts.position (λ f. outcome_cmp (found_outcome f) c.args.outcome.now) (always_returns_same _ _ _ (λ a r g k. (k.met.1, search rules))) in
    (place_told c.args.list.now c.args.outcome.now c.binary_search_by.result c.requires facts.bound told).1
