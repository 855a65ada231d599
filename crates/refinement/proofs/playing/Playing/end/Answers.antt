use Rattle.std.proofs.Common.{rules, ◌≡◌, true, false, refl, arith, set}
use Rattle.values_undef.specs.declared.access.Choice.TheVariants.{Plain}
use Rattle.values_undef.specs.declared.access.Event.TheVariants as event
use Rattle.view_machine.specs.Held.{state_in, IsOf}
use Rattle.view_machine.specs.State.{after_spend}
use Rattle.values_undef.specs.Access.{is_spend}
use Rattle.view_machine.proofs.Callers.{spend_is}
use Rattle.refinement.specs.Books.{recorded}
use Rattle.refinement.specs.Playings.{played, IsMade}
use Rattle.values_undef.proofs.Callers.{end_is_finish}
use Rattle.refinement.proofs.Playings.{has_room, carried_few, spend_goes, end_goes}
use Rattle.refinement.proofs.playing.Playing.end.Goals as goal

pub returns-then-is_spend-clause-ready : goal.returns-then-is_spend-clause-ready
returns-then-is_spend-clause-ready g c =
    let old = played c.args.self.now.machine c.args.self.now.silent.items c.args.self.now.entries.items in
    let new = played c.spend.new.self.machine c.spend.new.self.silent.items c.spend.new.self.entries.items in
    let q : is_spend c.args.entry.now.event ≡ true = search rules in
    let state : state_in c.args.p.now c.spend.new.self.machine ≡ after_spend (state_in c.args.p.now c.args.self.now.machine) c.args.entry.now.thread = search rules in
    let silent : c.spend.new.self.silent.items ≡ set c.args.self.now.silent.items c.args.entry.now.thread 0 = search rules in
    let entries : c.spend.new.self.entries.items ≡ recorded c.args.self.now.entries.items c.args.self.now.silent.items c.args.entry.now.thread event.Spend = search rules in
    let program : IsOf c.args.p.now c.spend.new.self.machine = search rules in
    spend_goes c.args.p.now c.args.news c.args.done.now c.args.entry.now c.args.rest.now c.args.entry.now.silent old c.requires.open refl new (spend_is c.args.entry.now.event q) state silent entries program

pub step-requires-clause-versions : goal.step-requires-clause-versions
step-requires-clause-versions g c κs within =
    has_room c.args.p.now c.args.news c.args.done.now c.args.entry.now c.args.rest.now c.args.entry.now.silent (played c.args.self.now.machine c.args.self.now.silent.items c.args.self.now.entries.items) c.requires.open c.requires.proper (omega arith) c.requires.few

pub step-requires-clause-few : goal.step-requires-clause-few
step-requires-clause-few g c κs within =
    carried_few c.args.p.now c.args.news c.args.done.now c.args.entry.now c.args.rest.now c.args.entry.now.silent (played c.args.self.now.machine c.args.self.now.silent.items c.args.self.now.entries.items) c.requires.open (omega arith) c.requires.few

pub returns-clause-ready : goal.returns-clause-ready
returns-clause-ready g c =
    let old = played c.args.self.now.machine c.args.self.now.silent.items c.args.self.now.entries.items in
    let new = played c.step.new.self.machine c.step.new.self.silent.items c.step.new.self.entries.items in
    let q : is_spend c.args.entry.now.event ≡ false = search rules in
    let m : IsMade c.args.p.now c.args.entry.now.thread Plain old new c.in-Some.failed = search rules in
    (end_goes c.args.p.now c.args.news c.args.done.now c.args.entry.now c.args.rest.now c.args.entry.now.silent old c.requires.open refl new c.in-Some.failed (end_is_finish c.args.entry.now.event c.requires.ends q) m).1
