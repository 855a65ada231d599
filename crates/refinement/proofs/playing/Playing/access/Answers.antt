use Rattle.std.proofs.Common.{rules, ◌≡◌, refl, sym, subst, arith, ◌∙◌}
use Rattle.std.proofs.lemmas.Bool.{true≢false}
use Rattle.values_undef.specs.Access.{choice_of_event}
use Rattle.values_undef.specs.Matching.{without_place}
use Rattle.refinement.specs.Playings.{played, IsMade, IsNoStep}
use Rattle.refinement.proofs.Playings.{has_room, carried_few, own_goes, again_open, again_there, again_fails}
use Rattle.refinement.proofs.playing.Playing.access.Goals as goal

pub step-requires-clause-versions : goal.step-requires-clause-versions
step-requires-clause-versions g c κs within =
    has_room c.args.p.now c.args.news c.args.done.now c.args.entry.now c.args.rest.now c.args.entry.now.silent (played c.args.self.now.machine c.args.self.now.silent.items c.args.self.now.entries.items) c.requires.open c.requires.proper (omega arith) c.requires.few

pub step-requires-clause-few : goal.step-requires-clause-few
step-requires-clause-few g c κs within =
    carried_few c.args.p.now c.args.news c.args.done.now c.args.entry.now c.args.rest.now c.args.entry.now.silent (played c.args.self.now.machine c.args.self.now.silent.items c.args.self.now.entries.items) c.requires.open (omega arith) c.requires.few

pub returns-in-Some-clause-goes : goal.returns-in-Some-clause-goes
returns-in-Some-clause-goes g c =
    let old = played c.args.self.now.machine c.args.self.now.silent.items c.args.self.now.entries.items in
    let new = played c.step.new.self.machine c.step.new.self.silent.items c.step.new.self.entries.items in
    let is : c.choice_of-c.result ≡ choice_of_event c.args.entry.now.event = search rules in
    let m : IsMade c.args.p.now c.args.entry.now.thread c.choice_of-c.result old new c.in-Some.failed = search rules in
    (own_goes c.args.p.now c.args.news c.args.done.now c.args.entry.now c.args.rest.now c.args.entry.now.silent old c.requires.open refl new c.in-Some.failed c.requires.goes c.requires.load
    (subst (λ d. IsMade c.args.p.now c.args.entry.now.thread d old new c.in-Some.failed) is m)).0

pub returns-in-Some-clause-over : goal.returns-in-Some-clause-over
returns-in-Some-clause-over g c =
    let old = played c.args.self.now.machine c.args.self.now.silent.items c.args.self.now.entries.items in
    let new = played c.step.new.self.machine c.step.new.self.silent.items c.step.new.self.entries.items in
    let is : c.choice_of-c.result ≡ choice_of_event c.args.entry.now.event = search rules in
    let m : IsMade c.args.p.now c.args.entry.now.thread c.choice_of-c.result old new c.in-Some.failed = search rules in
    (own_goes c.args.p.now c.args.news c.args.done.now c.args.entry.now c.args.rest.now c.args.entry.now.silent old c.requires.open refl new c.in-Some.failed c.requires.goes c.requires.load
    (subst (λ d. IsMade c.args.p.now c.args.entry.now.thread d old new c.in-Some.failed) is m)).1

pub step-requires-2-clause-versions : goal.step-requires-2-clause-versions
step-requires-2-clause-versions g c κs within =
    let old = played c.args.self.now.machine c.args.self.now.silent.items c.args.self.now.entries.items in
    let mid = played c.step.new.self.machine c.step.new.self.silent.items c.step.new.self.entries.items in
    let n : IsNoStep c.args.p.now c.args.entry.now.thread c.choice_of-c.result old mid = search rules in
    has_room c.args.p.now c.args.news c.args.done.now c.args.entry.now c.args.rest.now c.args.entry.now.silent mid (again_open c.args.p.now c.args.news c.args.done.now c.args.entry.now c.args.rest.now c.choice_of-c.result old mid n c.requires.open) c.requires.proper (omega arith) c.requires.few

pub step-requires-2-clause-few : goal.step-requires-2-clause-few
step-requires-2-clause-few g c κs within =
    let old = played c.args.self.now.machine c.args.self.now.silent.items c.args.self.now.entries.items in
    let mid = played c.step.new.self.machine c.step.new.self.silent.items c.step.new.self.entries.items in
    let n : IsNoStep c.args.p.now c.args.entry.now.thread c.choice_of-c.result old mid = search rules in
    carried_few c.args.p.now c.args.news c.args.done.now c.args.entry.now c.args.rest.now c.args.entry.now.silent mid (again_open c.args.p.now c.args.news c.args.done.now c.args.entry.now c.args.rest.now c.choice_of-c.result old mid n c.requires.open) (omega arith) c.requires.few

pub unreachable-requires : goal.unreachable-requires
unreachable-requires g c =
    let old = played c.args.self.now.machine c.args.self.now.silent.items c.args.self.now.entries.items in
    let mid = played c.step.new.self.machine c.step.new.self.silent.items c.step.new.self.entries.items in
    let new = played c.step-2.new.self.machine c.step-2.new.self.silent.items c.step-2.new.self.entries.items in
    let is : c.choice_of-c.result ≡ choice_of_event c.args.entry.now.event = search rules in
    let n : IsNoStep c.args.p.now c.args.entry.now.thread c.choice_of-c.result old mid = search rules in
    let d : c.without_place.result ≡ without_place c.choice_of-c.result = search rules in
    let none : IsNoStep c.args.p.now c.args.entry.now.thread c.without_place.result mid new = search rules in
    none.none (again_there c.args.p.now c.args.news c.args.done.now c.args.entry.now c.args.rest.now c.choice_of-c.result old mid is n c.requires.open c.requires.goes c.requires.load c.without_place.result d)

pub returns-clause-goes : goal.returns-clause-goes
returns-clause-goes g c =
    let old = played c.args.self.now.machine c.args.self.now.silent.items c.args.self.now.entries.items in
    let mid = played c.step.new.self.machine c.step.new.self.silent.items c.step.new.self.entries.items in
    let new = played c.step-2.new.self.machine c.step-2.new.self.silent.items c.step-2.new.self.entries.items in
    let is : c.choice_of-c.result ≡ choice_of_event c.args.entry.now.event = search rules in
    let n : IsNoStep c.args.p.now c.args.entry.now.thread c.choice_of-c.result old mid = search rules in
    let d : c.without_place.result ≡ without_place c.choice_of-c.result = search rules in
    let m : IsMade c.args.p.now c.args.entry.now.thread c.without_place.result mid new c.in-Some-2.failed = search rules in
    λ h. absurd (true≢false (sym (again_fails c.args.p.now c.args.news c.args.done.now c.args.entry.now c.args.rest.now c.choice_of-c.result old mid is n c.requires.open c.requires.goes c.requires.load c.without_place.result d new c.in-Some-2.failed m).0 ∙ h))

pub returns-clause-over : goal.returns-clause-over
returns-clause-over g c =
    let old = played c.args.self.now.machine c.args.self.now.silent.items c.args.self.now.entries.items in
    let mid = played c.step.new.self.machine c.step.new.self.silent.items c.step.new.self.entries.items in
    let new = played c.step-2.new.self.machine c.step-2.new.self.silent.items c.step-2.new.self.entries.items in
    let is : c.choice_of-c.result ≡ choice_of_event c.args.entry.now.event = search rules in
    let n : IsNoStep c.args.p.now c.args.entry.now.thread c.choice_of-c.result old mid = search rules in
    let d : c.without_place.result ≡ without_place c.choice_of-c.result = search rules in
    let m : IsMade c.args.p.now c.args.entry.now.thread c.without_place.result mid new c.in-Some-2.failed = search rules in
    λ h. (again_fails c.args.p.now c.args.news c.args.done.now c.args.entry.now c.args.rest.now c.choice_of-c.result old mid is n c.requires.open c.requires.goes c.requires.load c.without_place.result d new c.in-Some-2.failed m).1
