use Rattle.std.proofs.Common.{sym, subst}
use Rattle.std.proofs.lemmas.Result.{IfOk-weaker}
use Rattle.thread_core.proofs.Callers.{well_formed_proper}
use Rattle.outcomes_session.specs.Session.{AreAllOutcomes}
use Rattle.refute_session.proofs.Answered.{verdict_against}
use Rattle.refute_session.proofs.comparing.against.Goals as goal

pub outcomes-requires-clause-proper : goal.outcomes-requires-clause-proper
outcomes-requires-clause-proper c = well_formed_proper c.args.target.now c.requires.target

pub returns-in-Ok : goal.returns-in-Ok
returns-in-Ok c =
    let all = subst (λ list. AreAllOutcomes c.args.target.now c.args.steps list) (sym c.as_slice.ensures.value) c.in-Ok.ensures.all in
    IfOk-weaker c.verdict.result _ _ (λ a h. verdict_against c.args.source_list.now c.args.target.now c.args.steps c.args.states c.as_slice.result.now a c.in-Ok.ensures.exact all h) c.verdict.ensures
