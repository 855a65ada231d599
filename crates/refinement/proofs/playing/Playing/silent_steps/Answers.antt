use Rattle.std.proofs.Common.{rules, ◌≡◌, true, false, refl, subst, arith}
use Rattle.std.proofs.lemmas.Grind.{common_steps}
use Rattle.values_undef.specs.declared.access.Choice.TheVariants.{Plain}
use Rattle.refinement.specs.Playings.{played, IsMade, IsNoStep, IsOpen}
use Rattle.refinement.proofs.Playings.{has_room, carried_few, silent_there, silent_goes}
use Rattle.refinement.proofs.playing.Playing.silent_steps.Goals as goal

pub loop-made-init : goal.loop-made-init
loop-made-init g c = record { opened = c.requires.open }

pub step-requires-clause-program : goal.step-requires-clause-program
step-requires-clause-program g c κs within = c.loop-made.invariant.opened.recorded.program

pub step-requires-clause-threads : goal.step-requires-clause-threads
step-requires-clause-threads g c κs within = c.loop-made.invariant.opened.recorded.threads

pub step-requires-clause-versions : goal.step-requires-clause-versions
step-requires-clause-versions g c κs within =
    has_room c.args.p.now c.args.news c.args.done.now c.args.entry.now c.args.rest.now c.loop-made.made (played c.loop-made.self.machine c.loop-made.self.silent.items c.loop-made.self.entries.items) c.loop-made.invariant.opened c.requires.proper c.loop-made.auto.made-end c.requires.few

pub step-requires-clause-few : goal.step-requires-clause-few
step-requires-clause-few g c κs within =
    carried_few c.args.p.now c.args.news c.args.done.now c.args.entry.now c.args.rest.now c.loop-made.made (played c.loop-made.self.machine c.loop-made.self.silent.items c.loop-made.self.entries.items) c.loop-made.invariant.opened c.loop-made.auto.made-end c.requires.few

pub loop-made-preserved : goal.loop-made-preserved
loop-made-preserved g c =
    let old = played c.loop-made.self.machine c.loop-made.self.silent.items c.loop-made.self.entries.items in
    let new = played c.step.new.self.machine c.step.new.self.silent.items c.step.new.self.entries.items in
    let m : IsMade c.args.p.now c.args.entry.now.thread Plain old new false = search rules in
    record { opened = (silent_goes c.args.p.now c.args.news c.args.done.now c.args.entry.now c.args.rest.now c.loop-made.made old c.loop-made.invariant.opened new false c.loop-made-test.true m).0 refl }

pub returns-in-Some-true-clause-over : goal.returns-in-Some-true-clause-over
returns-in-Some-true-clause-over g c =
    let old = played c.loop-made.self.machine c.loop-made.self.silent.items c.loop-made.self.entries.items in
    let new = played c.step.new.self.machine c.step.new.self.silent.items c.step.new.self.entries.items in
    let m : IsMade c.args.p.now c.args.entry.now.thread Plain old new true = search rules in
    (silent_goes c.args.p.now c.args.news c.args.done.now c.args.entry.now c.args.rest.now c.loop-made.made old c.loop-made.invariant.opened new true c.loop-made-test.true m).1

pub unreachable-requires : goal.unreachable-requires
unreachable-requires g c =
    let old = played c.loop-made.self.machine c.loop-made.self.silent.items c.loop-made.self.entries.items in
    let new = played c.step.new.self.machine c.step.new.self.silent.items c.step.new.self.entries.items in
    let n : IsNoStep c.args.p.now c.args.entry.now.thread Plain old new = search rules in
    n.none (silent_there c.args.p.now c.args.news c.args.done.now c.args.entry.now c.args.rest.now c.loop-made.made old c.loop-made.invariant.opened c.loop-made-test.true)

pub returns-clause-goes : goal.returns-clause-goes
returns-clause-goes g c =
    let all : c.loop-made.made ≡ c.args.entry.now.silent = first_of (search rules, grind (arith, common_steps)) in
    λ _. subst (λ n. IsOpen c.args.p.now c.args.news c.args.done.now c.args.entry.now c.args.rest.now n (played c.loop-made.self.machine c.loop-made.self.silent.items c.loop-made.self.entries.items)) all c.loop-made.invariant.opened
