use Rattle.std.proofs.Common.{ap, ◌∙◌}
use Rattle.thread_core.specs.Frames.{next_of, advanced}
use Rattle.thread_core.specs.Steps.{Positions, stack_in}
use Rattle.view_machine.specs.State.{idle}
use Rattle.view_machine.proofs.Mapped.{map_at, map_changed}
use Rattle.view_machine.proofs.locals.proceed_in.Goals as goal

pub returns-clause-next : goal.returns-clause-next
returns-clause-next c =
    let p = c.args.p.now in
    c.proceed.ensures.next ∙ ap next_of (ap (stack_in p) c.index_mut-local.ensures.value ∙ map_at (stack_in p) c.args.locals.now.items c.args.i c.index_mut-local.result.now idle c.requires.there)

pub returns-clause-stacks : goal.returns-clause-stacks
returns-clause-stacks c = λ silent.
    map_changed (stack_in c.args.p.now) (advanced c.args.p.now) c.args.locals.now.items c.args.i c.index_mut-local.result.now c.proceed.new.self idle c.requires.there
    (c.proceed.ensures.made silent ∙ ap (λ (l : Positions). advanced c.args.p.now (stack_in c.args.p.now l)) c.index_mut-local.ensures.value)
