use Rattle.indexed_memory.specs.Index.{HasRoomFor}
use Rattle.indexed_memory.proofs.Growing.{grown_same, grown_set, ready_set, none_ready, line_any}
use Rattle.std.proofs.Common.{subst, arith}
use Rattle.std.proofs.lemmas.Slice.Zip.{AllZip-long}
use Rattle.indexed_memory.specs.declared.line.Line.{Line}
use Rattle.indexed_memory.specs.Index.{HasGrown}
use Rattle.indexed_memory.proofs.line.reserve_lines.Goals as goal

pub loop-i-init : goal.loop-i-init
loop-i-init c = record { grown = grown_same c.args.lines.now; ready = none_ready (HasRoomFor c.args.n) c.args.lines.now }

pub returns-in_err-reserve-clause-grown : goal.returns-in_err-reserve-clause-grown
returns-in_err-reserve-clause-grown c =
    grown_set c.args.lines.now c.loop-i.lines c.loop-i.i c.reserve.new.self
    (λ d. subst (λ (line : Line). HasGrown line c.reserve.new.self) (line_any c.loop-i.lines c.loop-i.i c.index-lines-i.result d (omega (arith, c.loop-i-test.true, AllZip-long HasGrown c.args.lines.now c.loop-i.lines c.loop-i.invariant.grown))) c.reserve.ensures.grown)
    c.loop-i.invariant.grown

pub loop-i-preserved : goal.loop-i-preserved
loop-i-preserved c = record {
  grown =
      grown_set c.args.lines.now c.loop-i.lines c.loop-i.i c.reserve.new.self
      (λ d. subst (λ (line : Line). HasGrown line c.reserve.new.self) (line_any c.loop-i.lines c.loop-i.i c.index-lines-i.result d (omega (arith, c.loop-i-test.true, AllZip-long HasGrown c.args.lines.now c.loop-i.lines c.loop-i.invariant.grown))) c.reserve.ensures.grown)
      c.loop-i.invariant.grown;
  ready = ready_set (HasRoomFor c.args.n) c.loop-i.lines c.loop-i.i c.reserve.new.self c.in_ok-reserve.ensures.room c.loop-i.invariant.ready;
}
