use Rattle.std.proofs.Common.{sym, ◌∙◌}
use Rattle.indexed_memory.proofs.Nth.{nth_there, nth_behind, nth_past, nth_jumped}
use Rattle.indexed_memory.proofs.gaps.nth_down.Goals as goal

pub returns-then-number-left-clause-left : goal.returns-then-number-left-clause-left
returns-then-number-left-clause-left c =
    let n = c.in-Some.ensures in
    nth_jumped c.args.pool.now c.args.places.now c.args.seen c.args.a.now c.args.low c.requires.rank c.width_for.result c.in-Some.number c.args.j c.args.left c.args.runs.now c.requires.runs c.width_for.ensures n.width n.number n.whole.0 n.whole.1 c.requires.there c.if-number-left.true

pub returns-then-left-eq0-clause-found : goal.returns-then-left-eq0-clause-found
returns-then-left-eq0-clause-found c =
    nth_there c.args.pool.now c.args.places.now c.args.seen c.args.a.now c.args.low c.requires.rank c.args.j c.requires.more c.requires.there c.in-Some-choice_below.choice c.args.left c.if-left-eq0.true (sym c.choice_below.ensures ∙ c.in-Some-choice_below.is)

pub returns-in-None-clause-left : goal.returns-in-None-clause-left
returns-in-None-clause-left c = nth_past c.args.pool.now c.args.places.now c.args.seen c.args.a.now c.args.low c.requires.rank c.args.j c.requires.more c.requires.there c.args.left (sym c.choice_below.ensures ∙ c.in-None.is)

pub returns-else-left-eq0-clause-left : goal.returns-else-left-eq0-clause-left
returns-else-left-eq0-clause-left c =
    nth_behind c.args.pool.now c.args.places.now c.args.seen c.args.a.now c.args.low c.requires.rank c.args.j c.requires.more c.requires.there c.in-Some-choice_below.choice c.args.left c.if-left-eq0.false (sym c.choice_below.ensures ∙ c.in-Some-choice_below.is)
