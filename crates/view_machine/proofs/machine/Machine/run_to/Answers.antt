use Rattle.std.proofs.Common.{◌≡◌, List, map, sym, ap, subst, ◌∙◌}
use Rattle.thread_core.specs.Frames.{Stack}
use Rattle.thread_core.specs.Steps.{stack_in}
use Rattle.thread_core.specs.Alone.{local_after_silent}
use Rattle.view_machine.specs.Held.{state_in}
use Rattle.view_machine.specs.State.{State, IsRunning, local_in}
use Rattle.view_machine.specs.Runs.{AreSilent, after_silent}
use Rattle.view_machine.proofs.Merging.{going_with, silent_steps_local}
use Rattle.view_machine.proofs.machine.Machine.run_to.Goals as goal

pub returns-clause-silent : goal.returns-clause-silent
returns-clause-silent g c =
    let p = c.args.p.now in
    let i = c.args.thread in
    let n = c.run_to_in.result.0 in
    let s : State = record { locals = map (stack_in p) c.self.inside.locals.items; views = c.self.inside.views.items; ended = c.self.inside.ended.items; memory = g.M.MessageMemory.contents c.self.inside.memory } in
    let same : s ≡ state_in p c.args.self.now = ap (state_in p) c.self.view_is in
    let running = subst (λ (x : State). IsRunning x i) (sym same) c.requires.running in
    subst (AreSilent p i n) same (silent_steps_local p i n s running c.run_to_in.ensures.silent).0

pub returns-clause-state : goal.returns-clause-state
returns-clause-state g c =
    let p = c.args.p.now in
    let i = c.args.thread in
    let n = c.run_to_in.result.0 in
    let s : State = record { locals = map (stack_in p) c.self.inside.locals.items; views = c.self.inside.views.items; ended = c.self.inside.ended.items; memory = g.M.MessageMemory.contents c.self.inside.memory } in
    let same : s ≡ state_in p c.args.self.now = ap (state_in p) c.self.view_is in
    let running = subst (λ (x : State). IsRunning x i) (sym same) c.requires.running in
    ap (λ (xs : List Stack). let x : State = record s { locals = xs } in x) c.run_to_in.ensures.stacks
    ∙ sym (silent_steps_local p i n s running c.run_to_in.ensures.silent).1 ∙ ap (after_silent p i n) same

pub returns-clause-running : goal.returns-clause-running
returns-clause-running g c =
    let p = c.args.p.now in
    let i = c.args.thread in
    let n = c.run_to_in.result.0 in
    let s : State = record { locals = map (stack_in p) c.self.inside.locals.items; views = c.self.inside.views.items; ended = c.self.inside.ended.items; memory = g.M.MessageMemory.contents c.self.inside.memory } in
    let same : s ≡ state_in p c.args.self.now = ap (state_in p) c.self.view_is in
    let running = subst (λ (x : State). IsRunning x i) (sym same) c.requires.running in
    subst (λ (x : State). IsRunning x i) (sym (ap (λ (xs : List Stack). let x : State = record s { locals = xs } in x) c.run_to_in.ensures.stacks))
    (going_with s i (local_after_silent p n (local_in s i)) running)
