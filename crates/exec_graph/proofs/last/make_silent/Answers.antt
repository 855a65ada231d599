use Rattle.std.proofs.Common.{ℕ, ap, ◌∙◌}
use Rattle.thread_core.specs.Frames.{Stack, next_of}
use Rattle.thread_core.specs.Alone.{local_after_silent}
use Rattle.thread_core.specs.Steps.{stack_in}
use Rattle.exec_graph.proofs.LastSteps.{all_silent}
use Rattle.exec_graph.proofs.last.make_silent.Goals as goal

pub returns-clause-stack : goal.returns-clause-stack
returns-clause-stack c =
    let p = c.args.p.now in
    let l = stack_in p c.args.local.now in
    c.run_to.ensures.stack
    ∙ ap (λ (n : ℕ). local_after_silent p n l) (all_silent p c.args.silent c.run_to.result.0 l c.requires.silent c.run_to.ensures.most
    (λ e. c.run_to.ensures.stops (c.run_to.ensures.next ∙ ap (λ (s : Stack). next_of s) c.run_to.ensures.stack ∙ e)))
