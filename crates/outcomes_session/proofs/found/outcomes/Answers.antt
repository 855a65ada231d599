use Rattle.outcomes_session.proofs.found.outcomes.Goals as goal

pub returns-in-Ok-clause-all : goal.returns-in-Ok-clause-all
returns-in-Ok-clause-all c = record { nothing_missed = c.in-Ok.ensures.nothing_missed; nothing_invented = c.in-Ok.ensures.nothing_invented; each_once = c.in-Ok.ensures.each_once }
