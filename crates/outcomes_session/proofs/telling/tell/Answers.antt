use Rattle.std.proofs.Common.{sym, subst}
use Rattle.thread_core.proofs.Callers.{well_formed_proper}
use Rattle.outcomes_session.specs.Session.{AreAllOutcomes}
use Rattle.outcomes_session.proofs.telling.tell.Goals as goal

pub outcomes-requires-clause-proper : goal.outcomes-requires-clause-proper
outcomes-requires-clause-proper c = well_formed_proper c.args.p.now c.requires.well_formed

pub returns-in-Ok : goal.returns-in-Ok
returns-in-Ok c =
    c.tell_list.ensures c.args.steps c.args.states (subst (λ list. AreAllOutcomes c.args.p.now c.args.steps list) (sym c.as_slice.ensures.value) c.in-Ok.ensures.all) c.in-Ok.ensures.exact
