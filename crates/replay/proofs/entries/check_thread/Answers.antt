use Rattle.std.proofs.Common.{◌<◌, length, inr, sym, ap, ◌∙◌, arith}
use Rattle.std.proofs.lemmas.List.{length-map}
use Rattle.message_memory.specs.Memory.{Memory}
use Rattle.thread_core.specs.Steps.{stack_in}
use Rattle.view_machine.specs.Held.{state_in}
use Rattle.replay.proofs.FirstReasons.{stands, first_thread, first_after}
use Rattle.replay.proofs.entries.check_thread.Goals as goal

pub returns-then-has_ended-clause-why : goal.returns-then-has_ended-clause-why
returns-then-has_ended-clause-why g c =
    let p = c.args.p.now in
    first_thread p (state_in p c.args.machine.now) c.args.entry.now (inr (sym (c.has_ended.ensures.value p) ∙ c.if-has_ended.true))

pub returns-then-failed-clause-why : goal.returns-then-failed-clause-why
returns-then-failed-clause-why g c =
    let p = c.args.p.now in
    let m = c.args.machine.now in
    let there : c.args.entry.now.thread < length m.locals = c.has_ended.ensures.there c.if-has_ended.false in
    first_after p (state_in p m) c.args.entry.now
    (stands (state_in p m) c.args.entry.now.thread (omega (arith, there, length-map m.locals (stack_in p))) (sym (c.has_ended.ensures.value p) ∙ c.if-has_ended.false))
    (ap (λ (x : Memory). x.failed) (sym c.memory.ensures.value) ∙ sym c.failed.ensures.value ∙ c.if-failed.true)

pub returns-clause-running : goal.returns-clause-running
returns-clause-running g c =
    let p = c.args.p.now in
    let m = c.args.machine.now in
    let there : c.args.entry.now.thread < length m.locals = c.has_ended.ensures.there c.if-has_ended.false in
    record {
      there = omega (arith, there, length-map m.locals (stack_in p));
      going = sym (c.has_ended.ensures.value p) ∙ c.if-has_ended.false;
      running = ap (λ (x : Memory). x.failed) (sym c.memory.ensures.value) ∙ sym c.failed.ensures.value ∙ c.if-failed.false;
    }
