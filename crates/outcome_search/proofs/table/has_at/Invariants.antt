use Rattle.std.proofs.Common.{◌≡◌, ℕ, ◌<◌, get_or}
use Rattle.outcome_nodes.specs.Standing.{node_of}
use Rattle.outcome_search.specs.Runs.{nodes_of}
use Rattle.outcome_search.proofs.table.has_at.Given as goal

abbrev pub invariant-loop-k : goal.invariant-loop-k
invariant-loop-k l = (j : ℕ) → j < l.k → get_or (nodes_of l.p l._steps l.runs) (get_or l.places j 0) (node_of l.p l._steps l.entries) ≡ node_of l.p l._steps l.entries → ⊥
