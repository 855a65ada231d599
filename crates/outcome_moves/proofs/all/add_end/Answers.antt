use Rattle.std.proofs.Common.{◌≡◌, ◌^◌, sym, ◌∙◌, subst}
use Rattle.outcome_nodes.specs.Nodes.{IsMove}
use Rattle.outcome_nodes.specs.Standing.{node_of}
use Rattle.outcome_moves.specs.Moves.{HasMove}
use Rattle.outcome_moves.proofs.Growing.{on_ok_more, end_same}
use Rattle.outcome_moves.proofs.all.add_end.Goals as goal

pub add_move-requires-clause-low : goal.add_move-requires-clause-low
add_move-requires-clause-low c = c.requires.low (2 ^ 60) c.in-Some.b c.requires.small (sym c.end_in.ensures ∙ c.in-Some.is)

pub add_move-requires-clause-lowest : goal.add_move-requires-clause-lowest
add_move-requires-clause-lowest c = λ most h. c.requires.low most c.in-Some.b h (sym c.end_in.ensures ∙ c.in-Some.is)

pub returns-in-Some-clause-added : goal.returns-in-Some-clause-added
returns-in-Some-clause-added c =
    let p = c.args.p.now in
    let n = node_of p c.args._steps c.args.entries.now in
    on_ok_more c.add_move.result c.add_move.ensures.added
    (λ f b e m.
    let same : c.in-Some.b ≡ b = end_same c.in-Some.b b (sym c.in-Some.is ∙ c.end_in.ensures ∙ e) in
    subst (HasMove p c.args._steps n c.add_move.new.moves.items c.args.thread c.args.a.now) same (f (subst (IsMove n c.args.thread c.args.a.now) (sym same) m)))
