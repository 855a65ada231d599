use Rattle.std.proofs.Common.{ℕ, Bool, cond, leb, sym, ap, arith}
use Rattle.std.proofs.lemmas.Bool.{le-leb, lt-leb}
use Rattle.indexed_memory.proofs.GapSums.{gaps_none, gaps_next}
use Rattle.indexed_memory.proofs.runs.count_gaps.Goals as goal
use Rattle.indexed_memory.proofs.runs.count_gaps.Goals.{then-gap_after-width, else-gap_after-width}

pub loop-i-init : goal.loop-i-init
loop-i-init c = record { same = sym (gaps_none c.args.pool.now c.args.places.now c.args.width c.args.from); few = omega arith }

pub loop-i-preserved : goal.loop-i-preserved
loop-i-preserved c =
    let g = gaps_next c.args.pool.now c.args.places.now c.args.width c.args.from c.loop-i.i in
    elim c.if-gap_after-width.branch [
      | then-gap_after-width w ↦
          let e = ap {B = ℕ} (λ (b : Bool). cond b 1 0) (le-leb c.args.width c.gap_after.result w.if-gap_after-width.true) in
          let f = ap {B = ℕ} (λ (n : ℕ). cond (leb c.args.width n) 1 0) c.gap_after.ensures in
          record { same = omega (arith, w.count-is, c.loop-i.invariant.same, g, e, f); few = omega (arith, w.count-is, c.loop-i.invariant.few) }
      | else-gap_after-width w ↦
          let e = ap {B = ℕ} (λ (b : Bool). cond b 1 0) (lt-leb c.args.width c.gap_after.result w.if-gap_after-width.false) in
          let f = ap {B = ℕ} (λ (n : ℕ). cond (leb c.args.width n) 1 0) c.gap_after.ensures in
          record { same = omega (arith, w.count-is, c.loop-i.invariant.same, g, e, f); few = omega (arith, w.count-is, c.loop-i.invariant.few) }
    ]
