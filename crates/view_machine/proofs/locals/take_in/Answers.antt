use Rattle.std.proofs.Common.{ap, ◌∙◌}
use Rattle.thread_core.specs.Steps.{Positions, stack_in}
use Rattle.view_machine.specs.State.{idle, local_after_event}
use Rattle.view_machine.proofs.Mapped.{map_changed}
use Rattle.view_machine.proofs.locals.take_in.Goals as goal

pub returns-clause-stacks : goal.returns-clause-stacks
returns-clause-stacks c =
    map_changed (stack_in c.args.p.now) (λ s. local_after_event s c.args.event.now) c.args.locals.now.items c.args.i c.index_mut-local.result.now c.take.new.self idle c.requires.there
    (c.take.ensures.stack ∙ ap (λ (x : Positions). local_after_event (stack_in c.args.p.now x) c.args.event.now) c.index_mut-local.ensures.value)
