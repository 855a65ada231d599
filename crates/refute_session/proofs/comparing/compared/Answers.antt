use Rattle.std.proofs.Common.{sym, subst}
use Rattle.std.proofs.lemmas.Result.{IfOk-weaker}
use Rattle.thread_core.proofs.Callers.{well_formed_proper}
use Rattle.outcomes_session.specs.Session.{AreAllOutcomes}
use Rattle.refute_session.proofs.Answered.{against_both}
use Rattle.refute_session.proofs.comparing.compared.Goals as goal

pub outcomes-requires-clause-proper : goal.outcomes-requires-clause-proper
outcomes-requires-clause-proper c = well_formed_proper c.args.source.now c.requires.source

pub returns-in-Ok : goal.returns-in-Ok
returns-in-Ok c =
    let all = subst (λ list. AreAllOutcomes c.args.source.now c.args.steps list) (sym c.as_slice.ensures.value) c.in-Ok.ensures.all in
    IfOk-weaker c.against.result _ _
    (λ a h. against_both c.args.source.now c.args.target.now c.args.steps c.args.states c.as_slice.result.now a (c.same_shape.ensures.0 c.if-not-same_shape.false) c.in-Ok.ensures.exact all h)
    c.against.ensures
