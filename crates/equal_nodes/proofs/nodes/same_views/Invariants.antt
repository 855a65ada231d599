use Rattle.std.proofs.Common.{◌≡◌, ℕ, ◌<◌, get_or}
use Rattle.views.specs.ThreadView.{no_view}
use Rattle.equal_nodes.proofs.nodes.same_views.Given as goal

abbrev pub invariant-loop-thread : goal.invariant-loop-thread
invariant-loop-thread l = (i : ℕ) → i < l.thread → get_or l.a.views i no_view ≡ get_or l.b.views i no_view
