use Rattle.std.proofs.Common.{◌≡◌, sym, ◌∙◌, subst, arith}
use Rattle.seq_pair.specs.Pair.{pair_step, register_count}
use Rattle.seq_pair.specs.Laws.{IsInStep}
use Rattle.seq_pair.specs.Pairing.{pair_in}
use Rattle.seq_pair.proofs.Along.{goes_on_by, stays_in_step, next_in_step}
use Rattle.seq_pair.proofs.pairing.Pairing.run.Goals as goal

pub step-requires-clause-now : goal.step-requires-clause-now
step-requires-clause-now c =
    let s = pair_in c.args.p.now c.args.q.now c.loop-left.self in
    subst (λ z. IsInStep z s) (sym c.register_count-old.ensures) (c.loop-left.invariant.in_step 0 (omega arith))

pub step-requires-clause-next : goal.step-requires-clause-next
step-requires-clause-next c =
    let p = c.args.p.now in
    let q = c.args.q.now in
    let s = pair_in p q c.loop-left.self in
    subst (λ z. IsInStep z (pair_step p q z s)) (sym c.register_count-old.ensures)
    (next_in_step p q (register_count p c.args.f) s (sym c.goes_on.ensures ∙ c.if-goes_on.true) (c.loop-left.invariant.in_step 1 (omega (arith, c.loop-left-test.true))))

pub loop-left-preserved : goal.loop-left-preserved
loop-left-preserved c =
    let p = c.args.p.now in
    let q = c.args.q.now in
    let old = register_count p c.args.f in
    let s = pair_in p q c.loop-left.self in
    let t = pair_in p q c.step.new.self in
    let h = c.loop-left.invariant in
    let g = sym c.goes_on.ensures ∙ c.if-goes_on.true in
    let e : t ≡ pair_step p q old s = subst (λ z. t ≡ pair_step p q z s) c.register_count-old.ensures c.in_ok-step.ensures.state in
    record {
      state = goes_on_by p q old c.loop-left.left s t c.loop-left-test.true g e ∙ h.state;
      in_step = stays_in_step p q old c.loop-left.left s t c.loop-left-test.true g e h.in_step;
      pair = c.in_ok-step.ensures.pair;
    }
