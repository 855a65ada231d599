use Rattle.std.proofs.Common.{rules, Some}
use Rattle.outcome_nodes.specs.Standing.{node_of}
use Rattle.outcome_moves.specs.Moves.{IsTried, HasSmallMove}
use Rattle.outcome_moves.proofs.Growing.{grows_one, has_last}
use Rattle.outcome_moves.proofs.all.add_move.Goals as goal

pub returns-in_ok-push-clause-grows : goal.returns-in_ok-push-clause-grows
returns-in_ok-push-clause-grows c =
    let n = node_of c.args.p.now c.args._steps c.args.entries.now in
    let tried : IsTried c.args.p.now c.args._steps (node_of c.args.p.now c.args._steps c.args.entries.now) c.args.thread c.args.a.now c.args.b (Some c.in-Some.m) = search rules in
    let small : HasSmallMove c.args.b c.args.entries.now (Some c.in-Some.m) = search rules in
    grows_one c.args.p.now c.args._steps n c.args.entries.now c.args.moves.now.items c.push.new.self.items c.in-Some.m c.in_ok-push.ensures.items
    (record { thread = c.args.thread; access = c.args.a.now; behind = c.args.b; there = c.requires.there; asks = c.requires.asks; move = tried.0; moved = tried.1 })
    (small.0, λ most h. small.1 most (c.requires.lowest most h) h)

pub returns-in_ok-push-clause-added : goal.returns-in_ok-push-clause-added
returns-in_ok-push-clause-added c =
    let n = node_of c.args.p.now c.args._steps c.args.entries.now in
    let tried : IsTried c.args.p.now c.args._steps (node_of c.args.p.now c.args._steps c.args.entries.now) c.args.thread c.args.a.now c.args.b (Some c.in-Some.m) = search rules in
    λ move. has_last c.args.p.now c.args._steps n c.args.moves.now.items c.push.new.self.items c.in-Some.m c.args.thread c.args.a.now c.args.b c.in_ok-push.ensures.items tried.1
