use Rattle.std.proofs.Common.{false, sym, subst, ◌∙◌}
use Rattle.thread_core.specs.Programs.{IsProperNext}
use Rattle.thread_core.proofs.Callers.{within_some, within_silent}
use Rattle.view_machine.specs.Held.{state_in}
use Rattle.replay.proofs.FirstReasons.{stays_silent}
use Rattle.replay.proofs.entries.make_event.Goals as goal

pub returns-in-None-clause-why : goal.returns-in-None-clause-why
returns-in-None-clause-why g c =
    stays_silent c.args.p.now (state_in c.args.p.now c.args.machine.now) c.args.entry.now
    (sym c.requires.next ∙ within_silent c.args.next (sym c.within.ensures ∙ c.in-None.is)) (sym c.is_spend.ensures ∙ c.if-is_spend.false)

pub access-requires-clause-asks : goal.access-requires-clause-asks
access-requires-clause-asks g c κs within = sym c.requires.next ∙ within_some false c.args.next c.in-Some.a (sym c.within.ensures ∙ c.in-Some.is)

pub access-requires-clause-named : goal.access-requires-clause-named
access-requires-clause-named g c κs within = subst (IsProperNext c.args.p.now) (within_some false c.args.next c.in-Some.a (sym c.within.ensures ∙ c.in-Some.is)) c.requires.named
