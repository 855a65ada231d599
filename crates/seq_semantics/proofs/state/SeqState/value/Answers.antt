use Rattle.std.proofs.Common.{length, refl, sym, ap, subst, ◌∙◌, arith}
use Rattle.il_syntax.specs.Statements.{head_of}
use Rattle.il_paths.proofs.Callers.{head_of-call}
use Rattle.thread_core.specs.Programs.{IsProperHead}
use Rattle.thread_core.proofs.Callers.{call_few}
use Rattle.seq_semantics.specs.Held.{HeldSeq, IsSeqOf}
use Rattle.seq_semantics.proofs.OneCall.{kept}
use Rattle.seq_semantics.proofs.state.SeqState.value.Goals as goal

pub arguments_of-args-requires-clause-few : goal.arguments_of-args-requires-clause-few
arguments_of-args-requires-clause-few c =
    let w = c.in-Call in
    let p = c.args.p.now in
    let few = call_few p w.r w.function w.args c.requires.proper (subst (IsProperHead p 64) (ap head_of w.is ∙ head_of-call w.r w.function w.args) c.in-Some.ensures.named) in
    let same = ap length c.as_slice.ensures in
    omega (arith, few, same)

pub returns-in-AtomicLoad-clause-program : goal.returns-in-AtomicLoad-clause-program
returns-in-AtomicLoad-clause-program c =
    let s : HeldSeq = record { positions = c.self.inside.local; places = c.self.inside.places.items; course = c.self.inside.course } in
    let h : IsSeqOf c.args.p.now s = subst (IsSeqOf c.args.p.now) (sym c.self.view_is) c.requires.program in
    kept c.args.p.now s _ _ h c.resume.ensures.at c.resume.ensures.stack refl refl

pub returns-in-Call-clause-program : goal.returns-in-Call-clause-program
returns-in-Call-clause-program c =
    let s : HeldSeq = record { positions = c.self.inside.local; places = c.self.inside.places.items; course = c.self.inside.course } in
    let h : IsSeqOf c.args.p.now s = subst (IsSeqOf c.args.p.now) (sym c.self.view_is) c.requires.program in
    kept c.args.p.now s _ _ h c.pass_call.ensures.at c.pass_call.ensures.stack refl refl
