use Rattle.std.proofs.Common.{ℕ, take}
use Rattle.outcome_nodes.specs.Nodes.{IsMove}
use Rattle.outcome_nodes.specs.Standing.{node_of}
use Rattle.outcome_moves.specs.Ends.{HasEnd}
use Rattle.outcome_moves.specs.Moves.{HasMove, GrowsBy}
use Rattle.outcome_moves.proofs.all.add_moves_at.Given as goal

abbrev pub invariant-loop-k : goal.invariant-loop-k
invariant-loop-k l = record {
  grows : GrowsBy l.p l._steps (node_of l.p l._steps l.entries) l.entries l.fn.moves.items l.moves.items;
  first : IsMove (node_of l.p l._steps l.entries) l.thread l.a 0 → HasMove l.p l._steps (node_of l.p l._steps l.entries) l.moves.items l.thread l.a 0;
  tried : (b : ℕ) → HasEnd (take l.k l.entries) l.y b → IsMove (node_of l.p l._steps l.entries) l.thread l.a b → HasMove l.p l._steps (node_of l.p l._steps l.entries) l.moves.items l.thread l.a b;
}
