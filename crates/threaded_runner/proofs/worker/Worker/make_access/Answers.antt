use Rattle.std.proofs.Common.{eqb, ap, ◌∙◌, subst, arith}
use Rattle.thread_core.specs.Steps.{stack_in}
use Rattle.thread_core.specs.declared.next.Next.{Next}
use Rattle.thread_core.specs.Frames.{Stack, next_of}
use Rattle.view_machine.specs.State.{local_after_event}
use Rattle.shared_memory.specs.Passes.{Accessed}
use Rattle.shared_memory.specs.declared.slot.Answer.{Answer}
use Rattle.threaded_runner.specs.Underway.{IsNextAccess}
use Rattle.threaded_runner.proofs.Underway.{Ask, Go, over_done, over_stopped, few_calls, less}
use Rattle.threaded_runner.proofs.Events.{goes_on_ends}
use Rattle.threaded_runner.proofs.worker.Worker.make_access.Goals as goal

pub access-requires-clause-share : goal.access-requires-clause-share
access-requires-clause-share g c κs within =
    let u = c.requires.underway in
    let few = few_calls c.args.self.now.pass.thread c.args.self.now.pass.seen u.goes_on in
    let used = u.used in
    let share = c.requires.share in
    omega (arith, few, used, share)

pub carry_on-requires-clause-left : goal.carry_on-requires-clause-left
carry_on-requires-clause-left g c = λ on.
    let lt = less c.args.p.now c.args.shared.now.params.share c.args.seed c.args.steps c.args.left c.run_to-silent.result.0 c.args.self.now.pass c.access.new.pass (stack_in c.args.p.now c.args.self.now.local) c.args.self.now.draw c.access.new.ch c.next_access-a.result c.in-Done.event
    (c.requires.pass.params ∙ c.requires.params) c.requires.underway c.run_to-silent.ensures.most c.run_to-silent.ensures.silent (subst (λ (x : Next). IsNextAccess x (eqb c.run_to-silent.result.0 c.args.left) c.next_access-a.result) (c.run_to-silent.ensures.next ∙ ap next_of c.run_to-silent.ensures.stack) c.next_access-a.ensures.next) c.access.ensures.thread (subst (λ (r : Answer). Accessed Ask Go c.args.self.now.pass c.run_to-silent.result.0 c.next_access-a.result c.args.self.now.draw r c.access.new.pass c.access.new.ch) c.in-Done.is c.access.ensures.answer) (goes_on_ends c.in-Done.event on) in
    omega (arith, lt)

pub returns-in-Done-clause-over : goal.returns-in-Done-clause-over
returns-in-Done-clause-over g c =
    over_done c.args.p.now c.args.shared.now.params.share c.args.seed c.args.steps c.args.left c.run_to-silent.result.0 c.args.self.now.pass c.access.new.pass (stack_in c.args.p.now c.args.self.now.local) c.args.self.now.draw c.access.new.ch c.next_access-a.result c.in-Done.event
    (c.requires.pass.params ∙ c.requires.params) c.requires.underway c.run_to-silent.ensures.most c.run_to-silent.ensures.silent (subst (λ (x : Next). IsNextAccess x (eqb c.run_to-silent.result.0 c.args.left) c.next_access-a.result) (c.run_to-silent.ensures.next ∙ ap next_of c.run_to-silent.ensures.stack) c.next_access-a.ensures.next) c.access.ensures.thread (subst (λ (r : Answer). Accessed Ask Go c.args.self.now.pass c.run_to-silent.result.0 c.next_access-a.result c.args.self.now.draw r c.access.new.pass c.access.new.ch) c.in-Done.is c.access.ensures.answer) c.carry_on.result _ (c.carry_on.ensures.stack ∙ ap (λ (l : Stack). local_after_event l c.in-Done.event) c.run_to-silent.ensures.stack) c.carry_on.ensures.left

pub returns-in-Stopped-clause-over : goal.returns-in-Stopped-clause-over
returns-in-Stopped-clause-over g c =
    over_stopped c.args.p.now c.args.shared.now.params.share c.args.seed c.args.steps c.args.left c.args.self.now.pass c.access.new.pass (stack_in c.args.p.now c.args.self.now.local) c.args.self.now.draw _ (c.requires.pass.params ∙ c.requires.params) c.requires.underway c.access.ensures.thread (subst (λ (r : Answer). Accessed Ask Go c.args.self.now.pass c.run_to-silent.result.0 c.next_access-a.result c.args.self.now.draw r c.access.new.pass c.access.new.ch) c.in-Stopped.is c.access.ensures.answer).0
