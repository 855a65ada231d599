use Rattle.std.proofs.Common.{List, get_or, ap, ◌∙◌}
use Rattle.views.specs.ThreadView.{ThreadView, no_view}
use Rattle.view_machine.specs.State.{State, next_in}
use Rattle.view_machine.specs.Held.{state_in}
use Rattle.outcome_moves.proofs.Playing.{played, play_legal, play_state}
use Rattle.outcome_moves.proofs.standing.play.Goals as goal

pub access-event-requires-clause-legal : goal.access-event-requires-clause-legal
access-event-requires-clause-legal c κs =
    let p = c.args.p.now in
    let s = state_in p c.args.machine.now in
    let e = c.args.entry.now in
    let r = c.run_to-made.ensures in
    let q = played p s e c.run_to-made.result.0 c.run_to-made.result.1 c.requires.entry c.requires.unspent r.most (r.next ∙ ap (λ (t : State). next_in t e.thread) r.state) r.stops in
    play_legal p s e c.run_to-made.result.0 c.run_to-made.result.1 c.run_to-made.new.self.memory (get_or c.run_to-made.new.self.views e.thread no_view) c.in-Access.a c.choice_of-choice.result q r.memory
    (ap (λ (x : List ThreadView). get_or x e.thread no_view) r.views) c.in-Access.is c.choice_of-choice.ensures

pub returns-clause-state : goal.returns-clause-state
returns-clause-state c =
    let p = c.args.p.now in
    let s = state_in p c.args.machine.now in
    let e = c.args.entry.now in
    let r = c.run_to-made.ensures in
    let q = played p s e c.run_to-made.result.0 c.run_to-made.result.1 c.requires.entry c.requires.unspent r.most (r.next ∙ ap (λ (t : State). next_in t e.thread) r.state) r.stops in
    play_state p s (state_in p c.run_to-made.new.self) (state_in p c.access-event.new.self) e c.run_to-made.result.0 c.run_to-made.result.1 c.choice_of-choice.result c.access-event.result q c.requires.unspent r.state
    c.choice_of-choice.ensures c.access-event.ensures.made
