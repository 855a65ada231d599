use Rattle.std.proofs.Common.{refl, sym, ◌∙◌, subst, arith}
use Rattle.values_undef.specs.declared.access.Choice.TheVariants.{Plain}
use Rattle.view_machine.specs.Held.{state_in, HasRoom}
use Rattle.view_machine.proofs.Callers.{runs_have_room}
use Rattle.outcome_moves.specs.Moves.{last_state}
use Rattle.outcome_moves.proofs.Making.{event_made, event_there, tried_only}
use Rattle.outcome_moves.proofs.moves.only_move.Goals as goal

pub access-event-requires-clause-versions : goal.access-event-requires-clause-versions
access-event-requires-clause-versions c κs = subst HasRoom (sym c.requires.memory) (runs_have_room c.args.p.now c.args.entries.now (last_state c.args.p.now c.args.entries.now) c.requires.proper c.requires.run.stands.run (omega (arith, c.requires.few)))

pub returns-clause-made : goal.returns-clause-made
returns-clause-made c =
    let p = c.args.p.now in
    let t = state_in p c.args.machine.now in
    let event =
    event_made p t (state_in p c.access-event.new.self) c.args.thread Plain c.access-event.result c.args.a.now c.requires.next c.access-event.ensures.made
    ∙ event_there (last_state p c.args.entries.now) t c.args.thread c.args.a.now Plain c.requires.memory c.requires.views in
    (tried_only p c.args._steps c.args.entries.now c.args.thread c.args.a.now 0 c.requires.proper c.requires.run c.requires.there c.requires.asks c.requires.named c.args.silent c.access-event.result c.in_ok-made.made.entries.items c.in_ok-made.made.fails refl
    c.requires.silent c.requires.plain event c.in_ok-made.ensures.run c.in_ok-made.ensures.fails).0

pub returns-clause-small : goal.returns-clause-small
returns-clause-small c =
    let p = c.args.p.now in
    let t = state_in p c.args.machine.now in
    let event =
    event_made p t (state_in p c.access-event.new.self) c.args.thread Plain c.access-event.result c.args.a.now c.requires.next c.access-event.ensures.made
    ∙ event_there (last_state p c.args.entries.now) t c.args.thread c.args.a.now Plain c.requires.memory c.requires.views in
    (tried_only p c.args._steps c.args.entries.now c.args.thread c.args.a.now 0 c.requires.proper c.requires.run c.requires.there c.requires.asks c.requires.named c.args.silent c.access-event.result c.in_ok-made.made.entries.items c.in_ok-made.made.fails refl
    c.requires.silent c.requires.plain event c.in_ok-made.ensures.run c.in_ok-made.ensures.fails).1
