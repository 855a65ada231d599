use Rattle.std.proofs.Common.{◌≡◌, ◌<◌, ◌*◌, ◌-◌, ℕ, length, refl, ap, sym, subst, ◌∙◌}
use Rattle.std.specs.Prelude.{vec_capacity}
use Rattle.message_memory.specs.Step.{IsProper}
use Rattle.shared_memory.specs.Slot.{SlotContents, calls_from, view_with, first_memory}
use Rattle.shared_memory.specs.Answers.{FailsAt, IsStopped, IsDone}
use Rattle.shared_memory.proofs.Slots.{view_closed, is_proper, small_stamps, version_fits, spare_left, fits, access_fits, fails_last, kept_after, done_after}
use Rattle.chooser.proofs.Callers.{chosen_candidate}
use Rattle.shared_memory.proofs.slot.SlotValue.call.Goals as goal

pub returns-then-failed-clause-answer : goal.returns-then-failed-clause-answer
returns-then-failed-clause-answer g c =
    let k = c.self.invariant in
    let last = fails_last _ _ _ _ _ _ _ k (sym c.failed.ensures.value ∙ c.if-failed.true) in
    let v = c.args.view.now in
    let at : c.len.result ≡ length c.self.inside.journal.items = c.len.ensures ∙ c.self.inside.journal.ok.0 in
    subst (λ (l : SlotContents). IsStopped g.C.Chooser.answer g.C.Chooser.next l.params l.calls c.args.ch.now (c.len.result - 1) l.calls v v c.args.ch.now) c.self.view_is
    (record { calls = refl; history = k.history; fails = subst (λ (n : ℕ). FailsAt (calls_from c.self.inside.journal.items c.self.inside.accesses.items) (n - 1)) (sym at) last; view_is = refl; chooser_is = refl })

pub choose-choice-requires-clause-closed : goal.choose-choice-requires-clause-closed
choose-choice-requires-clause-closed g c κs within =
    view_closed _ _ _ _ _ _ _ c.self.invariant c.args.view.now c.args.thread (subst (λ (l : SlotContents). c.args.thread < l.params.threads) (sym c.self.view_is) c.requires.there) (c.requires.view ∙ ap (λ (l : SlotContents). view_with l.params l.calls c.args.thread) (sym c.self.view_is))

pub choose-choice-requires-clause-proper : goal.choose-choice-requires-clause-proper
choose-choice-requires-clause-proper g c κs within =
    is_proper _ _ _ _ _ _ _ c.self.invariant c.args.a.now (subst (λ (l : SlotContents). IsProper (first_memory l.params) c.args.a.now) (sym c.self.view_is) c.requires.proper)

pub choose-choice-requires-clause-small : goal.choose-choice-requires-clause-small
choose-choice-requires-clause-small g c κs within =
    small_stamps _ _ _ _ _ _ _ c.self.invariant (subst (λ (l : SlotContents). length l.calls < l.params.threads * l.params.share) (sym c.self.view_is) c.requires.room)

pub access-event-requires-clause-closed : goal.access-event-requires-clause-closed
access-event-requires-clause-closed g c =
    view_closed _ _ _ _ _ _ _ c.self.invariant c.args.view.now c.args.thread (subst (λ (l : SlotContents). c.args.thread < l.params.threads) (sym c.self.view_is) c.requires.there) (c.requires.view ∙ ap (λ (l : SlotContents). view_with l.params l.calls c.args.thread) (sym c.self.view_is))

pub access-event-requires-clause-proper : goal.access-event-requires-clause-proper
access-event-requires-clause-proper g c =
    is_proper _ _ _ _ _ _ _ c.self.invariant c.args.a.now (subst (λ (l : SlotContents). IsProper (first_memory l.params) c.args.a.now) (sym c.self.view_is) c.requires.proper)

pub access-event-requires-clause-room : goal.access-event-requires-clause-room
access-event-requires-clause-room g c =
    spare_left _ _ _ _ _ _ _ c.self.invariant (subst (λ (l : SlotContents). length l.calls < l.params.threads * l.params.share) (sym c.self.view_is) c.requires.room)

pub access-event-requires-clause-version : goal.access-event-requires-clause-version
access-event-requires-clause-version g c =
    version_fits _ _ _ _ _ _ _ c.self.invariant c.args.a.now (subst (λ (l : SlotContents). length l.calls < l.params.threads * l.params.share) (sym c.self.view_is) c.requires.room) (subst (λ (l : SlotContents). IsProper (first_memory l.params) c.args.a.now) (sym c.self.view_is) c.requires.proper)

pub push_reserved-requires : goal.push_reserved-requires
push_reserved-requires g c =
    subst (λ (n : ℕ). n < vec_capacity c.self.inside.journal) (sym c.self.inside.journal.ok.0) (fits _ _ _ _ _ _ _ c.self.invariant (subst (λ (l : SlotContents). length l.calls < l.params.threads * l.params.share) (sym c.self.view_is) c.requires.room))

pub push_reserved-requires-2 : goal.push_reserved-requires-2
push_reserved-requires-2 g c =
    subst (λ (n : ℕ). n < vec_capacity c.self.inside.accesses) (sym c.self.inside.accesses.ok.0) (access_fits _ _ _ _ _ _ _ c.self.invariant (subst (λ (l : SlotContents). length l.calls < l.params.threads * l.params.share) (sym c.self.view_is) c.requires.room))

pub invariant_of-self : goal.invariant_of-self
invariant_of-self g c =
    kept_after _ _ _ _ _ _ _ c.self.invariant c.args.thread c.args.silent c.args.view.now _ c.args.a.now c.choose-choice.result c.access-event.result _
    (subst (λ (l : SlotContents). c.args.thread < l.params.threads) (sym c.self.view_is) c.requires.there) (c.requires.view ∙ ap (λ (l : SlotContents). view_with l.params l.calls c.args.thread) (sym c.self.view_is)) (subst (λ (l : SlotContents). IsProper (first_memory l.params) c.args.a.now) (sym c.self.view_is) c.requires.proper) c.access-event.ensures.step
    _ _ _ _ _ _ (chosen_candidate g.C.Chooser.answer (g.M.MessageMemory.contents c.self.inside.memory) c.args.view.now _ _ _ _ c.choose-choice.ensures.choice) c.access-event.ensures.room refl
    c.push_reserved.ensures.items c.push_reserved-2.ensures.items c.push_reserved.ensures.capacity c.push_reserved-2.ensures.capacity

pub returns-clause-answer : goal.returns-clause-answer
returns-clause-answer g c =
    subst (λ (l : SlotContents). IsDone g.C.Chooser.answer g.C.Chooser.next l.params l.calls c.args.thread c.args.silent c.args.a.now c.args.ch.now c.access-event.result (calls_from c.push_reserved.new.self.items c.push_reserved-2.new.self.items) c.args.view.now c.access-event.new.view c.choose-choice.new.ch) c.self.view_is
    (done_after _ _ _ _ _ _ _ c.self.invariant c.args.thread c.args.silent c.args.view.now _ c.args.a.now c.choose-choice.result c.access-event.result _
    (subst (λ (l : SlotContents). c.args.thread < l.params.threads) (sym c.self.view_is) c.requires.there) (c.requires.view ∙ ap (λ (l : SlotContents). view_with l.params l.calls c.args.thread) (sym c.self.view_is)) (subst (λ (l : SlotContents). IsProper (first_memory l.params) c.args.a.now) (sym c.self.view_is) c.requires.proper) c.access-event.ensures.step
    g.C.Chooser.answer g.C.Chooser.next c.args.ch.now c.choose-choice.new.ch _ _ _ refl
    c.push_reserved.ensures.items c.push_reserved-2.ensures.items c.choose-choice.ensures.choice c.choose-choice.ensures.chooser)
