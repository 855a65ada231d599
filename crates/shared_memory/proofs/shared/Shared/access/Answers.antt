use Rattle.std.proofs.Common.{◌≡◌, ◌<◌, ℕ, length, sym, ap, ◌∙◌, subst}
use Rattle.message_memory.specs.History.{calls_by}
use Rattle.shared_memory.specs.declared.params.SharedParams.{SharedParams}
use Rattle.shared_memory.specs.Turns.{seen_of}
use Rattle.shared_memory.specs.Passes.{PassValue, pass_value, own_calls, Accessed}
use Rattle.shared_memory.proofs.Accesses.{lock_tells, answered, pass_after, accessed}
use Rattle.shared_memory.proofs.shared.Shared.access.Goals as goal

pub invariant_of-pass : goal.invariant_of-pass
invariant_of-pass g c =
    pass_after g.C.Chooser.answer g.C.Chooser.next c.pass.inside.seat.table_id _ _ _ _ _ _ _ _ _ _ _ _
    (record { pass = c.pass.invariant; locked = c.lock.ensures.locked; seat = c.call_in_turn-answer.ensures.turn; answers = c.call_in_turn-answer.ensures.answer; rest = c.finish.ensures.rest })

pub returns-clause-answer : goal.returns-clause-answer
returns-clause-answer g c =
    subst (λ (p : PassValue). Accessed g.C.Chooser.answer g.C.Chooser.next p c.args.silent c.args.a.now c.args.ch.now c.call_in_turn-answer.result.0 (pass_value c.finish.new.seat.table_id c.finish.new.seat.me c.pass.inside.thread c.call_in_turn-answer.new.view) c.call_in_turn-answer.new.ch) c.pass.view_is
    (accessed g.C.Chooser.answer g.C.Chooser.next c.pass.inside.seat.table_id _ _ _ _ _ _ _ _ _ _ _ _
    (record { pass = c.pass.invariant; locked = c.lock.ensures.locked; seat = c.call_in_turn-answer.ensures.turn; answers = c.call_in_turn-answer.ensures.answer; rest = c.finish.ensures.rest }) c.finish.new.seat.table_id)

pub call_in_turn-answer-requires-clause-view : goal.call_in_turn-answer-requires-clause-view
call_in_turn-answer-requires-clause-view g c κs within = (lock_tells _ _ _ _ c.pass.invariant c.lock.ensures.locked).view_is

pub finish-requires-clause-turn : goal.finish-requires-clause-turn
finish-requires-clause-turn g c κs within =
    let me = c.pass.inside.seat.me in
    let share : me.0.params.share ≡ c.args.self.now.params.share = ap (λ (p : PassValue). p.params.share) c.pass.view_is ∙ ap (λ (b : SharedParams). b.share) c.requires.pass.params in
    let own : length (own_calls c.args.pass.now) < c.args.self.now.params.share = c.requires.share in
    let less : length (calls_by c.pass.inside.thread (seen_of me.0)) < me.0.params.share =
    subst (λ (n : ℕ). length (calls_by c.pass.inside.thread (seen_of me.0)) < n) (sym share) (subst (λ (p : PassValue). length (own_calls p) < c.args.self.now.params.share) (sym c.pass.view_is) own) in
    answered g.C.Chooser.answer g.C.Chooser.next _ _ _ _ _ _ _ _ _ _ _ (lock_tells _ _ _ _ c.pass.invariant c.lock.ensures.locked) less c.call_in_turn-answer.ensures.turn c.call_in_turn-answer.ensures.answer
