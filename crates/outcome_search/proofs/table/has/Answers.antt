use Rattle.std.proofs.Common.{rules, ◌≡◌, List, [], sym, ap, ◌∙◌}
use Rattle.std.proofs.lemmas.Bool.{false≢true}
use Rattle.outcome_nodes.specs.Standing.{node_of}
use Rattle.outcome_search.specs.Places.{listed_in, places_at}
use Rattle.outcome_search.proofs.Placing.{if_ok_more, within_at, found_exactly, not_found}
use Rattle.outcome_search.proofs.table.has.Goals as goal

pub returns-in_default : goal.returns-in_default
returns-in_default c =
    let none : places_at c.args.kept.now.places c.args.key ≡ [] = ap listed_in (sym c.in_default.ensures.value) in (
      λ f. absurd (false≢true f),
      λ q. absurd (not_found c.args.p.now c.args._steps c.args.kept.now.runs.items (places_at c.args.kept.now.places) c.requires.kept.places c.args.key (node_of c.args.p.now c.args._steps c.args.entries.now) none c.requires.key q),
    )

pub has_at-requires-clause-within : goal.has_at-requires-clause-within
has_at-requires-clause-within c =
    let runs : c.deref.result.now ≡ c.args.kept.now.runs.items = first_of (search rules, cc) in
    let listed : c.deref-2.result.now ≡ places_at c.args.kept.now.places c.args.key = c.deref-2.ensures.value ∙ ap listed_in c.in-Some.ensures.value in
    within_at c.deref.result.now c.args.kept.now.runs.items c.deref-2.result.now (places_at c.args.kept.now.places c.args.key) runs listed (c.requires.kept.places.within c.args.key)

pub returns : goal.returns
returns c =
    let runs : c.deref.result.now ≡ c.args.kept.now.runs.items = first_of (search rules, cc) in
    let listed : c.deref-2.result.now ≡ places_at c.args.kept.now.places c.args.key = c.deref-2.ensures.value ∙ ap listed_in c.in-Some.ensures.value in
    if_ok_more c.has_at.result
    (λ b h.
    found_exactly c.args.p.now c.args._steps c.args.kept.now.runs.items (places_at c.args.kept.now.places) c.requires.kept.places c.deref.result.now c.deref-2.result.now c.args.key (node_of c.args.p.now c.args._steps c.args.entries.now) b runs listed c.requires.key h)
    c.has_at.ensures
