use Rattle.std.proofs.Common.{◌≡◌, ◌<◌, length, ap, sym, ◌∙◌, subst, arith}
use Rattle.std.proofs.Math.ListN.{length-set}
use Rattle.std.proofs.lemmas.List.{get_or_default}
use Rattle.views.specs.ThreadView.{no_view}
use Rattle.message_memory.specs.Memory.{IsClosedView}
use Rattle.message_memory.specs.History.{MemoryState}
use Rattle.message_memory.proofs.Callers.{well_formed_after, all_at, keep_locations}
use Rattle.view_machine.specs.Held.{Held}
use Rattle.view_machine.proofs.Propers.{proper_in}
use Rattle.view_machine.proofs.machine.Machine.access.Goals as goal

pub invariant_of-self : goal.invariant_of-self
invariant_of-self g c =
    let s : MemoryState = record { memory = g.M.MessageMemory.contents c.self.inside.memory; views = c.self.inside.views.items } in
    let there : c.args.thread < length s.views = omega (arith, c.requires.there, c.self.invariant.views, ap (λ (h : Held). length h.locals) c.self.view_is) in
    let na : length s.memory.na ≡ length c.args.p.now.na = ap (λ (h : Held). length h.memory.na) c.self.view_is ∙ c.requires.program.na in
    let atomic : length s.memory.atomic ≡ length c.args.p.now.atomic = ap (λ (h : Held). length h.memory.atomic) c.self.view_is ∙ c.requires.program.atomic in
    let proper = proper_in c.args.p.now s.memory c.args.a.now na atomic c.requires.named in
    let seen = c.index_mut-view.ensures.value ∙ get_or_default s.views c.args.thread c.index_mut-view.result.now no_view there in
    record {
      views = length-set s.views c.args.thread c.access-event.new.view ∙ c.self.invariant.views ∙ sym c.take_in.ensures.length;
      ended = length-set c.self.inside.ended.items c.args.thread c.is_finish.result ∙ c.self.invariant.ended ∙ sym c.take_in.ensures.length;
      well_formed = well_formed_after s c.args.thread _ c.args.a.now c.args.c.now c.access-event.result _ c.access-event.new.view there proper seen c.access-event.ensures.step c.self.invariant.well_formed;
    }

pub returns-clause-program : goal.returns-clause-program
returns-clause-program g c =
    let s : MemoryState = record { memory = g.M.MessageMemory.contents c.self.inside.memory; views = c.self.inside.views.items } in
    let there : c.args.thread < length s.views = omega (arith, c.requires.there, c.self.invariant.views, ap (λ (h : Held). length h.locals) c.self.view_is) in
    let na : length s.memory.na ≡ length c.args.p.now.na = ap (λ (h : Held). length h.memory.na) c.self.view_is ∙ c.requires.program.na in
    let atomic : length s.memory.atomic ≡ length c.args.p.now.atomic = ap (λ (h : Held). length h.memory.atomic) c.self.view_is ∙ c.requires.program.atomic in
    let proper = proper_in c.args.p.now s.memory c.args.a.now na atomic c.requires.named in
    let seen = c.index_mut-view.ensures.value ∙ get_or_default s.views c.args.thread c.index_mut-view.result.now no_view there in
    let closed = subst (IsClosedView s.memory) (sym seen) (all_at (IsClosedView s.memory) s.views c.args.thread there c.self.invariant.well_formed.closed) in
    let step = c.access-event.ensures.step in
    let k = keep_locations s.memory (g.M.MessageMemory.contents c.access-event.new.self) c.index_mut-view.result.now c.access-event.new.view c.args.thread c.args.a.now c.args.c.now c.access-event.result c.self.invariant.well_formed.well_formed closed proper step in
    record {
      positions = c.take_in.ensures.positions;
      threads = c.take_in.ensures.length ∙ ap (λ (h : Held). length h.locals) c.self.view_is ∙ c.requires.program.threads;
      na = k.0 ∙ na;
      atomic = k.1 ∙ atomic;
    }
