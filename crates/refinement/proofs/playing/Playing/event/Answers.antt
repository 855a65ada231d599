use Rattle.std.proofs.Common.{rules, ◌≡◌, true, false, refl}
use Rattle.view_machine.specs.Held.{state_in}
use Rattle.values_undef.specs.Access.{is_read}
use Rattle.values_undef.proofs.Callers.{is_nonatomic_read}
use Rattle.refinement.specs.Playing.{at_load}
use Rattle.refinement.specs.Playings.{played}
use Rattle.refinement.proofs.Playings.{left_out}
use Rattle.refinement.proofs.playing.Playing.event.Goals as goal

pub returns-then-not-at_load-clause-goes : goal.returns-then-not-at_load-clause-goes
returns-then-not-at_load-clause-goes g c =
    let old = played c.args.self.now.machine c.args.self.now.silent.items c.args.self.now.entries.items in
    let q : is_read c.args.entry.now.event ≡ true = search rules in
    let away : at_load (state_in c.args.p.now c.args.self.now.machine) c.args.entry.now.thread ≡ false = search rules in
    let r = is_nonatomic_read c.args.entry.now.event q in
    λ _. left_out c.args.p.now c.args.news c.args.done.now c.args.entry.now c.args.rest.now c.args.entry.now.silent old c.requires.open refl r.0 r.1 r.2 away
