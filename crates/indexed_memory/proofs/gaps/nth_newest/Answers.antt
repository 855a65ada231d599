use Rattle.std.proofs.Common.{None, ap, sym, ◌∙◌}
use Rattle.message_memory.specs.declared.message.Message.{Message}
use Rattle.message_memory.specs.Candidates.{choice_at}
use Rattle.indexed_memory.proofs.Nth.{newest_there, newest_behind, newest_past}
use Rattle.indexed_memory.proofs.gaps.nth_newest.Goals as goal

pub returns-then-k-eq0-clause-found : goal.returns-then-k-eq0-clause-found
returns-then-k-eq0-clause-found c =
    newest_there c.args.pool.now c.args.places.now c.args.seen c.args.a.now c.args.low c.requires.rank c.requires.some c.in-Some.choice c.args.k c.if-k-eq0.true (sym (ap (λ (m : Message). choice_at c.args.a.now None m) c.message.ensures) ∙ sym c.choice_at.ensures ∙ c.in-Some.is)

pub returns-in-None-clause-left : goal.returns-in-None-clause-left
returns-in-None-clause-left c =
    newest_past c.args.pool.now c.args.places.now c.args.seen c.args.a.now c.args.low c.requires.rank c.requires.some c.args.k (sym (ap (λ (m : Message). choice_at c.args.a.now None m) c.message.ensures) ∙ sym c.choice_at.ensures ∙ c.in-None.is)

pub returns-else-k-eq0-clause-left : goal.returns-else-k-eq0-clause-left
returns-else-k-eq0-clause-left c =
    newest_behind c.args.pool.now c.args.places.now c.args.seen c.args.a.now c.args.low c.requires.rank c.requires.some c.in-Some.choice c.args.k c.if-k-eq0.false (sym (ap (λ (m : Message). choice_at c.args.a.now None m) c.message.ensures) ∙ sym c.choice_at.ensures ∙ c.in-Some.is)
