use Rattle.std.proofs.Common.{◌≡◌, ⊎_elim, ℕ, Some, take, get_or, subst, arith}
use Rattle.outcome_nodes.specs.Nodes.{IsMove}
use Rattle.outcome_nodes.specs.Standing.{node_of}
use Rattle.outcome_moves.specs.Ends.{end_in, HasEnd}
use Rattle.outcome_moves.specs.Moves.{HasMove}
use Rattle.outcome_moves.proofs.Growing.{grows_then, has_more, end_or_before, all_ends}
use Rattle.outcome_moves.proofs.Small.{low_at}
use Rattle.outcome_moves.proofs.Using.{no_entry}
use Rattle.outcome_moves.proofs.all.add_moves_at.Goals as goal

pub add_end-requires-clause-low : goal.add_end-requires-clause-low
add_end-requires-clause-low c = λ most b small e. low_at c.location_of-y.result b most c.loop-k.k no_entry c.args.entries.now c.loop-k-test.true e small

pub loop-k-preserved : goal.loop-k-preserved
loop-k-preserved c =
    let p = c.args.p.now in
    let n = node_of p c.args._steps c.args.entries.now in
    let h = c.loop-k.invariant in
    let old = c.loop-k.moves.items in
    let new = c.add_end.new.moves.items in
    let a = c.in_ok-add_end.ensures in
    record {
      grows = grows_then p c.args._steps n c.args.entries.now c.args.moves.now.items old new h.grows a.grows;
      first = λ m. has_more p c.args._steps n c.args.entries.now old new c.args.thread c.args.a.now 0 a.grows (h.first m);
      tried = λ b q m.
          ⊎_elim
          (λ (r : HasEnd (take c.loop-k.k c.args.entries.now) c.location_of-y.result b). has_more p c.args._steps n c.args.entries.now old new c.args.thread c.args.a.now b a.grows (h.tried b r m))
          (λ (r : end_in c.location_of-y.result (get_or c.args.entries.now c.loop-k.k no_entry).event ≡ Some b). a.added b r m)
          (end_or_before c.args.entries.now c.loop-k.k no_entry c.location_of-y.result b c.loop-k-test.true q);
    }

pub returns-clause-all : goal.returns-clause-all
returns-clause-all c =
    let p = c.args.p.now in
    let h = c.loop-k.invariant in
    all_ends p c.args._steps c.args.entries.now c.loop-k.moves.items c.args.thread c.args.a.now c.loop-k.k c.requires.asks c.requires.choice c.requires.run (omega (arith, c.loop-k-test.false)) h.first
    (subst (λ (y : ℕ). (b : ℕ) → HasEnd (take c.loop-k.k c.args.entries.now) y b → IsMove (node_of c.args.p.now c.args._steps c.args.entries.now) c.args.thread c.args.a.now b → HasMove c.args.p.now c.args._steps (node_of c.args.p.now c.args._steps c.args.entries.now) c.loop-k.moves.items c.args.thread c.args.a.now b) c.location_of-y.ensures h.tried)
