use Rattle.std.proofs.Common.{◌≡◌, ◌<◌, List, length, map, get_or, set, sym, ap, subst, ◌∙◌, arith}
use Rattle.std.proofs.lemmas.List.{get_or-set_same, length-map}
use Rattle.thread_core.specs.Frames.{Stack, next_of}
use Rattle.thread_core.specs.Steps.{Positions, stack_in}
use Rattle.thread_core.specs.Alone.{HasSilent, local_after_silent}
use Rattle.view_machine.specs.State.{idle}
use Rattle.view_machine.proofs.Mapped.{map_at, map_changed, changed_at}
use Rattle.view_machine.proofs.locals.run_to_in.Goals as goal

pub returns-clause-silent : goal.returns-clause-silent
returns-clause-silent c =
    let p = c.args.p.now in
    let xs = c.args.locals.now.items in
    let l = c.index_mut-local.result.now in
    subst (HasSilent p c.run_to.result.0)
    (ap (stack_in p) c.index_mut-local.ensures.value ∙ map_at (stack_in p) xs c.args.i l idle c.requires.there)
    c.run_to.ensures.silent

pub returns-clause-stacks : goal.returns-clause-stacks
returns-clause-stacks c =
    let p = c.args.p.now in
    map_changed (stack_in p) (local_after_silent p c.run_to.result.0) c.args.locals.now.items c.args.i c.index_mut-local.result.now c.run_to.new.self idle c.requires.there
    (c.run_to.ensures.stack ∙ ap (λ (l : Positions). local_after_silent p c.run_to.result.0 (stack_in p l)) c.index_mut-local.ensures.value)

pub returns-clause-next : goal.returns-clause-next
returns-clause-next c = c.run_to.ensures.next ∙ ap next_of (changed_at (stack_in c.args.p.now) c.args.locals.now.items c.args.i c.run_to.new.self idle c.requires.there)
