use Rattle.std.proofs.Common.{◌≡◌, refl, sym, ap, subst, ◌∙◌, IfOk, OnErr}
use Rattle.message_memory.specs.Memory.{Memory}
use Rattle.thread_core.specs.Programs.{IsProperNext}
use Rattle.values_undef.specs.declared.access.Choice.{Choice}
use Rattle.thread_core.specs.declared.next.Next.TheVariants as next
use Rattle.view_machine.specs.Held.{Held, state_in, HasRoom}
use Rattle.view_machine.specs.State.{IsRunning, IsStep, after_step, next_in}
use Rattle.view_machine.proofs.Merging.{silent_step}
use Rattle.view_machine.proofs.machine.Machine.step_plain.Goals as goal

pub returns-in-Silent-clause-step : goal.returns-in-Silent-clause-step
returns-in-Silent-clause-step g c =
    let s = state_in c.args.p.now c.args.self.now in
    subst (λ (x : Choice). IsStep s c.args.thread x) (sym c.requires.plain)
    (silent_step s c.args.thread c.requires.running (sym c.proceed.ensures.next ∙ c.in-Silent.is))

pub returns-in-Silent-clause-made : goal.returns-in-Silent-clause-made
returns-in-Silent-clause-made g c =
    let s = state_in c.args.p.now c.args.self.now in
    ap (λ (x : Choice). after_step c.args.p.now s c.args.thread x) c.requires.plain
    ∙ (λ i. record { state = c.proceed.ensures.made c.in-Silent.is i; done = c.proceed.ensures.done c.in-Silent.is i })

pub step_by-requires-clause-running : goal.step_by-requires-clause-running
step_by-requires-clause-running g c κs within =
    subst (λ (h : Held). IsRunning (state_in c.args.p.now h) c.args.thread) (sym (c.proceed.ensures.same c.in-Access.a c.in-Access.is)) c.requires.running

pub step_by-requires-clause-asks : goal.step_by-requires-clause-asks
step_by-requires-clause-asks g c κs within =
    subst (λ (h : Held). next_in (state_in c.args.p.now h) c.args.thread ≡ next.Access c.in-Access.a) (sym (c.proceed.ensures.same c.in-Access.a c.in-Access.is))
    (sym c.proceed.ensures.next ∙ c.in-Access.is)

pub step_by-requires-clause-named : goal.step_by-requires-clause-named
step_by-requires-clause-named g c κs within = subst (IsProperNext c.args.p.now) c.in-Access.is c.proceed.ensures.proper

pub step_by-requires-clause-versions : goal.step_by-requires-clause-versions
step_by-requires-clause-versions g c κs within = subst (λ (m : Memory). HasRoom m) (sym c.proceed.ensures.memory) c.requires.versions

pub returns-in-Access-clause-step : goal.returns-in-Access-clause-step
returns-in-Access-clause-step g c =
    subst (λ (h : Held). IfOk c.step_by.result (λ done. IsStep (state_in c.args.p.now h) c.args.thread c.args.c.now)) (c.proceed.ensures.same c.in-Access.a c.in-Access.is) c.step_by.ensures.step

pub returns-in-Access-clause-made : goal.returns-in-Access-clause-made
returns-in-Access-clause-made g c =
    subst (λ (h : Held). IfOk c.step_by.result (λ done. after_step c.args.p.now (state_in c.args.p.now h) c.args.thread c.args.c.now ≡ record { state = state_in c.args.p.now c.step_by.new.self; done = done }))
    (c.proceed.ensures.same c.in-Access.a c.in-Access.is) c.step_by.ensures.made

pub returns-in-Access-clause-none : goal.returns-in-Access-clause-none
returns-in-Access-clause-none g c =
    subst (λ (h : Held). OnErr c.step_by.result (IsStep (state_in c.args.p.now h) c.args.thread c.args.c.now → ⊥)) (c.proceed.ensures.same c.in-Access.a c.in-Access.is) c.step_by.ensures.none

pub returns-in-Access-clause-same : goal.returns-in-Access-clause-same
returns-in-Access-clause-same g c =
    subst (λ (h : Held). OnErr c.step_by.result (c.step_by.new.self ≡ h)) (c.proceed.ensures.same c.in-Access.a c.in-Access.is) c.step_by.ensures.same
