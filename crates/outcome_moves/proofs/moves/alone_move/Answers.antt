use Rattle.std.proofs.Common.{refl}
use Rattle.view_machine.specs.State.{view_in}
use Rattle.outcome_moves.specs.Moves.{last_state}
use Rattle.outcome_moves.proofs.Making.{tried_only}
use Rattle.outcome_moves.proofs.moves.alone_move.Goals as goal

pub returns-clause-made : goal.returns-clause-made
returns-clause-made c =
    let p = c.args._p.now in
    let s = last_state p c.args.entries.now in
    let told = c.in-Some.ensures.some in
    let tried = tried_only p c.args._steps c.args.entries.now c.args.thread c.args.a.now 0 c.requires.proper c.requires.run c.requires.there c.requires.asks c.requires.named c.args.silent c.in-Some.event c.in_ok-made.made.entries.items c.in_ok-made.made.fails refl
    c.requires.silent told.0 (told.1 s.memory (view_in s c.args.thread) c.args.thread) c.in_ok-made.ensures.run c.in_ok-made.ensures.fails in
    (told.0, tried.0.0, tried.0.1)

pub returns-clause-small : goal.returns-clause-small
returns-clause-small c =
    let p = c.args._p.now in
    let s = last_state p c.args.entries.now in
    let told = c.in-Some.ensures.some in
    (tried_only p c.args._steps c.args.entries.now c.args.thread c.args.a.now 0 c.requires.proper c.requires.run c.requires.there c.requires.asks c.requires.named c.args.silent c.in-Some.event c.in_ok-made.made.entries.items c.in_ok-made.made.fails refl
    c.requires.silent told.0 (told.1 s.memory (view_in s c.args.thread) c.args.thread) c.in_ok-made.ensures.run c.in_ok-made.ensures.fails).1
