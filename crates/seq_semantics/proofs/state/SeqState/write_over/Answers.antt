use Rattle.std.proofs.Common.{refl, sym, subst}
use Rattle.thread_core.specs.Frames.{resumed}
use Rattle.thread_core.specs.Steps.{stack_in}
use Rattle.values_undef.specs.declared.access.Event.TheVariants.{Update}
use Rattle.seq_semantics.specs.Held.{HeldSeq, IsSeqOf}
use Rattle.seq_semantics.proofs.OneCall.{kept}
use Rattle.seq_semantics.proofs.state.SeqState.write_over.Goals as goal

pub returns-clause-program : goal.returns-clause-program
returns-clause-program c =
    let s : HeldSeq = record { positions = c.self.inside.local; places = c.self.inside.places.items; course = c.self.inside.course } in
    let h : IsSeqOf c.args.p.now s = subst (IsSeqOf c.args.p.now) (sym c.self.view_is) c.requires.program in
    kept c.args.p.now s _ (resumed (stack_in c.args.p.now s.positions) (Update c.args.y c.args.order c.args.old c.args.new 0 0)) h c.resume.ensures.at c.resume.ensures.stack refl c.release.ensures.length
