use Rattle.std.proofs.Common.{ℕ, Bool, Option, cond, is_some, sym, ap, ◌∙◌, arith}
use Rattle.values_undef.specs.declared.access.Choice.{Choice}
use Rattle.indexed_memory.proofs.Counting.{count_below_one, jump}
use Rattle.indexed_memory.proofs.gaps.count_down.Goals as goal

pub returns-then-is_some-clause-count : goal.returns-then-is_some-clause-count
returns-then-is_some-clause-count c =
    let e = ap {B = ℕ} (λ (b : Bool). cond b 1 0) (sym c.if-is_some.true ∙ c.is_some.ensures ∙ ap (λ (o : Option Choice). is_some o) c.choice_below.ensures) in
    omega (arith, e, count_below_one c.args.pool.now c.args.places.now c.args.seen c.args.a.now c.args.low c.requires.rank c.args.j c.requires.more c.requires.there)

pub returns-clause-count : goal.returns-clause-count
returns-clause-count c =
    let e = ap {B = ℕ} (λ (b : Bool). cond b 1 0) (sym c.if-is_some.false ∙ c.is_some.ensures ∙ ap (λ (o : Option Choice). is_some o) c.choice_below.ensures) in
    omega (arith, e, count_below_one c.args.pool.now c.args.places.now c.args.seen c.args.a.now c.args.low c.requires.rank c.args.j c.requires.more c.requires.there)

pub returns-in-Some-clause-count : goal.returns-in-Some-clause-count
returns-in-Some-clause-count c =
    let n = c.in-Some.ensures in
    jump c.args.pool.now c.args.places.now c.args.seen c.args.a.now c.args.low c.requires.rank c.width_for.result c.in-Some.number c.args.j c.args.runs.now c.requires.runs c.width_for.ensures n.width n.number n.whole.0 n.whole.1 c.requires.there
