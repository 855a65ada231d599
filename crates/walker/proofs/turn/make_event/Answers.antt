use Rattle.std.proofs.Common.{sym, subst, ◌∙◌}
use Rattle.thread_core.specs.Programs.{IsProperNext}
use Rattle.thread_core.proofs.Callers.{within_some, within_none}
use Rattle.walker.proofs.turn.make_event.Goals as goal

pub end-requires-clause-able : goal.end-requires-clause-able
end-requires-clause-able g c κs within = record {
  able = c.requires.running;
  unfinished = λ f. (within_none c.args.spent c.args.next c.requires.stops (sym c.within.ensures ∙ c.in-None.is)).1 (c.requires.next ∙ f);
}

pub make_access-requires-clause-next : goal.make_access-requires-clause-next
make_access-requires-clause-next g c κs within = sym c.requires.next ∙ within_some c.args.spent c.args.next c.in-Some.a (sym c.within.ensures ∙ c.in-Some.is)

pub make_access-requires-clause-named : goal.make_access-requires-clause-named
make_access-requires-clause-named g c κs within = subst (IsProperNext c.args.p.now) (within_some c.args.spent c.args.next c.in-Some.a (sym c.within.ensures ∙ c.in-Some.is)) c.requires.named
