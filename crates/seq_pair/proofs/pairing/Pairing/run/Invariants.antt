use Rattle.std.proofs.Common.{◌≡◌, ℕ, ◌≤◌}
use Rattle.seq_pair.specs.Pair.{steps, register_count}
use Rattle.seq_pair.specs.Laws.{IsInStep}
use Rattle.seq_pair.specs.Pairing.{pair_in, IsPairOf}
use Rattle.seq_pair.proofs.pairing.Pairing.run.Given as goal

abbrev pub invariant-loop-left : goal.invariant-loop-left
invariant-loop-left l = record {
  state : steps l.p l.q (register_count l.p l.f) l.left (pair_in l.p l.q l.self) ≡ steps l.p l.q (register_count l.p l.f) l.n (pair_in l.p l.q l.fn.self);
  in_step : (k : ℕ) → k ≤ l.left → IsInStep (register_count l.p l.f) (steps l.p l.q (register_count l.p l.f) k (pair_in l.p l.q l.self));
  pair : IsPairOf l.p l.q l.f l.self;
}

abbrev pub decreases-loop-left : goal.decreases-loop-left
decreases-loop-left l = l.left
