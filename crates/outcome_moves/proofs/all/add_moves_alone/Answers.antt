use Rattle.std.proofs.Common.{rules, ◌≡◌, false}
use Rattle.values_undef.specs.Access.{leaves_choice}
use Rattle.outcome_nodes.specs.Nodes.{Asks}
use Rattle.outcome_nodes.specs.Standing.{node_of}
use Rattle.outcome_moves.proofs.Growing.{grows_none, none_asked, all_anywhere, has_last}
use Rattle.outcome_moves.proofs.all.add_moves_alone.Goals as goal

pub returns-in_default : goal.returns-in_default
returns-in_default c =
    let p = c.args.p.now in
    let n = node_of p c.args.steps c.args.entries.now in
    record {
      grows = grows_none p c.args.steps n c.args.entries.now c.args.moves.now.items;
      all = none_asked p c.args.steps c.args.entries.now c.args.thread c.args.moves.now.items c.in_ok-machine.what c.in_ok-machine.ensures.what c.in_default.not-Asks;
    }

pub returns-then-not-leaves_choice-clause-all : goal.returns-then-not-leaves_choice-clause-all
returns-then-not-leaves_choice-clause-all c =
    let p = c.args.p.now in
    let n = node_of p c.args.steps c.args.entries.now in
    let asked : Asks c.args.steps (node_of c.args.p.now c.args.steps c.args.entries.now) c.args.thread c.in-Asks.a = search rules in
    let none : leaves_choice c.in-Asks.a ≡ false = search rules in
    all_anywhere p c.args.steps n c.push.new.self.items c.args.thread c.in-Asks.a asked none
    (λ move. has_last p c.args.steps n c.args.moves.now.items c.push.new.self.items c.in_ok-m.m c.args.thread c.in-Asks.a 0 c.in_ok-push.ensures.items c.in_ok-m.ensures.made.1)
