use Rattle.std.proofs.Common.{ℕ, Bool, Option, None, cond, is_some, sym, ap, ◌∙◌, arith}
use Rattle.values_undef.specs.declared.access.Choice.{Choice}
use Rattle.message_memory.specs.declared.message.Message.{Message}
use Rattle.message_memory.specs.Candidates.{choice_at}
use Rattle.indexed_memory.proofs.Counting.{count_newest}
use Rattle.indexed_memory.proofs.gaps.count_newest.Goals as goal

pub returns-then-is_some : goal.returns-then-is_some
returns-then-is_some c =
    let e = ap {B = ℕ} (λ (b : Bool). cond b 1 0) (sym c.if-is_some.true ∙ c.is_some.ensures ∙ ap (λ (o : Option Choice). is_some o) c.choice_at.ensures ∙ ap (λ (m : Message). is_some (choice_at c.args.a.now None m)) c.message.ensures) in
    omega (arith, e, count_newest c.args.pool.now c.args.places.now c.args.seen c.args.a.now c.args.low c.requires.rank c.requires.some)

pub returns : goal.returns
returns c =
    let e = ap {B = ℕ} (λ (b : Bool). cond b 1 0) (sym c.if-is_some.false ∙ c.is_some.ensures ∙ ap (λ (o : Option Choice). is_some o) c.choice_at.ensures ∙ ap (λ (m : Message). is_some (choice_at c.args.a.now None m)) c.message.ensures) in
    omega (arith, e, count_newest c.args.pool.now c.args.places.now c.args.seen c.args.a.now c.args.low c.requires.rank c.requires.some)
