use Rattle.std.proofs.Common.{rules, ◌≡◌, ℕ, ◌<◌, length}
use Rattle.outcome_nodes.specs.Nodes.{told_by}
use Rattle.equal_nodes.proofs.Comparing.{none_spends, ends_there, state_same, node_same}
use Rattle.equal_nodes.proofs.nodes.same_node.Goals as goal

pub stand-requires-clause-unspent : goal.stand-requires-clause-unspent
stand-requires-clause-unspent c = none_spends c.args.a.now c.requires.first.stands.unspent

pub stand-requires-2-clause-unspent : goal.stand-requires-2-clause-unspent
stand-requires-2-clause-unspent c = none_spends c.args.b.now c.requires.second.stands.unspent

pub same_state-requires-clause-ends : goal.same_state-requires-clause-ends
same_state-requires-clause-ends c = λ y to q. ends_there c.args.p.now c.args.a.now c.in_ok-first.first y to c.requires.first.stands.run.run c.in_ok-first.ensures.state q

pub same_state-requires-clause-ends_too : goal.same_state-requires-clause-ends_too
same_state-requires-clause-ends_too c = λ y to q. ends_there c.args.p.now c.args.b.now c.in_ok-second.second y to c.requires.second.stands.run.run c.in_ok-second.ensures.state q

pub returns : goal.returns
returns c =
    let p = c.args.p.now in
    let a = c.args.a.now in
    let b = c.args.b.now in
    let h = c.in_ok-first.first in
    let k = c.in_ok-second.second in
    let f = c.in_ok-first.ensures.state in
    let g = c.in_ok-second.ensures.state in
    let told : (i : ℕ) → i < length p.threads → told_by a i ≡ told_by b i = λ i l. c.in_ok-same_told.ensures.0 (search rules) i (search rules) in
    (λ t. node_same p c.args._steps a b h k c.requires.proper c.requires.first c.requires.second told f g (c.same_state.ensures.0 t), λ e. c.same_state.ensures.1 (state_same p c.args._steps a b h k f g e))
