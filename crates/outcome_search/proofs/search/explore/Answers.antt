use Rattle.std.proofs.Common.{rules, ◌≡◌, List, length, get_or, sym, ap, ◌∙◌, subst, arith}
use Rattle.std.proofs.lemmas.List.{get_or-map}
use Rattle.values_undef.specs.declared.journal.Entry.{Entry}
use Rattle.values_undef.proofs.Callers.{all_get}
use Rattle.outcome_nodes.specs.Standing.{node_of}
use Rattle.outcome_search.specs.Runs.{IsShortRun}
use Rattle.outcome_search.specs.Search.{IsExplored}
use Rattle.outcome_search.proofs.Exploring.{usable_all, explored_by, ok_then}
use Rattle.outcome_search.proofs.search.explore.Goals as goal

pub enter_all-requires-clause-usable : goal.enter_all-requires-clause-usable
enter_all-requires-clause-usable c =
    let p = c.args.p.now in
    let steps = c.args.steps in
    let kept = c.args.kept.now.runs.items in
    let entries = c.deref.result.now in
    let here : get_or kept c.args.at entries ≡ entries = first_of (search rules, cc) in
    let short : IsShortRun p steps (length kept) entries = subst (IsShortRun p steps (length kept)) here (all_get (IsShortRun p steps (length kept)) kept c.args.at entries c.requires.there c.requires.kept.runs.short) in
    usable_all p steps (length kept) entries short (omega (arith, c.requires.limit, c.requires.kept.runs.few)) c.in_ok-moves.moves.items c.in_ok-moves.ensures.only c.in_ok-moves.ensures.small

pub returns-clause-explored : goal.returns-clause-explored
returns-clause-explored c =
    let p = c.args.p.now in
    let steps = c.args.steps in
    let kept = c.args.kept.now.runs.items in
    let entries = c.deref.result.now in
    let here : get_or kept c.args.at entries ≡ entries = first_of (search rules, cc) in
    ok_then c.enter_all.result
    (λ entered. λ n q.
    subst (IsExplored p steps c.enter_all.new.kept.runs.items c.enter_all.new.failed.items)
    (sym (ap (node_of p steps) here) ∙ sym (get_or-map (node_of p steps) kept c.args.at entries n c.requires.there) ∙ q)
    (explored_by p steps (node_of p steps entries) c.in_ok-moves.moves.items c.enter_all.new.kept.runs.items c.enter_all.new.failed.items c.in_ok-moves.ensures.all entered))
    c.enter_all.ensures.entered
