use Rattle.std.proofs.Common.{◌≡◌, length, Some, ap, subst, ◌∙◌, arith}
use Rattle.il_syntax.specs.declared.statement.Stmt.{Stmt}
use Rattle.il_syntax.specs.Statements.{head_of}
use Rattle.il_paths.proofs.Callers.{head_of-call}
use Rattle.thread_core.specs.Programs.{IsProperHead}
use Rattle.thread_core.specs.Steps.{stack_in, entered}
use Rattle.thread_core.proofs.Placing.{calls_in, call_few}
use Rattle.thread_core.proofs.local.Local.make.Goals as goal

pub enter-requires-clause-few : goal.enter-requires-clause-few
enter-requires-clause-few c =
    let w = c.in-Call in
    let p = c.args.p.now in
    let few = call_few p w.r w.function w.args c.requires.proper (subst (IsProperHead p 64) (ap head_of w.is ∙ head_of-call w.r w.function w.args) c.requires.named) in
    let same = ap length c.as_slice.ensures in
    omega (arith, few, same)

pub returns-in-Call-clause-stack : goal.returns-in-Call-clause-stack
returns-in-Call-clause-stack c =
    let w = c.in-Call in
    let p = c.args.p.now in
    let l = c.args.self.now in
    calls_in p l c.enter.new.self w.r w.function w.args
    (c.requires.statement ∙ ap (λ (s : Stmt). Some (head_of s)) w.is ∙ ap Some (head_of-call w.r w.function w.args))
    (c.enter.ensures.top ∙ ap (entered l.top w.function) c.as_slice.ensures)
    c.enter.ensures.callers
