use Rattle.std.proofs.Common.{rules, ◌≡◌, false}
use Rattle.values_undef.specs.Access.{leaves_choice}
use Rattle.outcome_nodes.specs.Nodes.{Asks, IsMove}
use Rattle.outcome_nodes.specs.Standing.{node_of}
use Rattle.outcome_moves.specs.Moves.{IsMoved}
use Rattle.outcome_moves.proofs.Growing.{grows_none, none_asked, all_anywhere, has_last}
use Rattle.outcome_moves.proofs.all.add_moves.Goals as goal

pub returns-in_default : goal.returns-in_default
returns-in_default c =
    let p = c.args.p.now in
    let n = node_of p c.args.steps c.args.entries.now in
    record {
      grows = grows_none p c.args.steps n c.args.entries.now c.args.moves.now.items;
      all = none_asked p c.args.steps c.args.entries.now c.args.thread c.args.moves.now.items c.settle-silent.result.1 c.settle-silent.ensures.what c.in_default.not-Asks;
      stands = c.settle-silent.ensures.stands;
      program = c.settle-silent.ensures.program;
    }

pub returns-in-Some-clause-all : goal.returns-in-Some-clause-all
returns-in-Some-clause-all c =
    let p = c.args.p.now in
    let n = node_of p c.args.steps c.args.entries.now in
    let asked : Asks c.args.steps (node_of c.args.p.now c.args.steps c.args.entries.now) c.args.thread c.in-Asks.a = search rules in
    let made : (leaves_choice c.in-Asks.a ≡ false) × IsMove (node_of c.args.p.now c.args.steps c.args.entries.now) c.args.thread c.in-Asks.a 0
    × IsMoved c.args.p.now c.args.steps (node_of c.args.p.now c.args.steps c.args.entries.now) c.args.thread c.in-Asks.a 0 c.in-Some.m = search rules in
    all_anywhere p c.args.steps n c.push.new.self.items c.args.thread c.in-Asks.a asked made.0
    (λ move. has_last p c.args.steps n c.args.moves.now.items c.push.new.self.items c.in-Some.m c.args.thread c.in-Asks.a 0 c.in_ok-push.ensures.items made.2)
